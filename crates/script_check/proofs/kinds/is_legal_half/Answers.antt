use Rattle.std.proofs.Common.{[], ◌∷◌, ◌∙◌, arith}
use Rattle.script_check.specs.Records.{kind_of, value_of, padding_of, bad_value}
use Rattle.script_check.proofs.Bytes.{second_half_is}
use Rattle.script_check.proofs.Halves.{legal_half}
use Rattle.script_check.proofs.kinds.is_legal_half.Goals as goal

-- each `tt` is a test of the table, which is computed
pub returns : goal.returns
unfolding bad_value
returns c b k v e =
    let h = e ∙ second_half_is b in
    legal_half (_ ∷ _ ∷ _ ∷ _ ∷ []) tt tt tt c.args.half (kind_of b 0) (value_of b 0) (padding_of b 0) h k v (omega (arith, h, c.ranges.half.fits))
