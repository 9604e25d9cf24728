-- The list of an event's reports loses nothing: the report can be read back.
-- Assumes nothing.
use mathlib.Core.List.{List, [], ◌∷◌}
use mathlib.Core.Path.{◌≡◌, refl}
use Rattle.computed.proofs.Lossless.{lossless}
use Rattle.diagnostics.specs.declared.I2cDiagnostic.{I2cDiagnostic}
use Rattle.std.specs.Prelude.{Option, Some, None, option_to_list}

abbrev report_of : List I2cDiagnostic → Option I2cDiagnostic
report_of [] = None
report_of (d ∷ ds) = Some d

report_back : (r : Option I2cDiagnostic) → report_of (option_to_list r) ≡ r
report_back None = refl
report_back (Some d) = refl

pub report_lossless : (p q : Option I2cDiagnostic) → option_to_list p ≡ option_to_list q → p ≡ q
report_lossless = lossless option_to_list report_of report_back
