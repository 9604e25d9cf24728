-- A temperature shifted right as a signed number keeps to sixteen bits in two's complement.
-- Assumes nothing.
use mathlib.Core.Path.{◌≡◌, ap, ◌∙◌}
use native.Mathlib.Nat.{lt_of_le_of_lt}
use lib.IntN.{ℤ}
use lib.Signed.{shr_z, mag_shr}
use mir.Facts.{to_z-of_z}
use mir.Syntax.{w16}
use mir.Val.{SFits, to_z, of_z}

-- read back from its bits
abbrev back : ℤ → ℤ
back z = to_z w16 (of_z w16 z)

pub shifted : (z : ℤ) → SFits w16 z → back (shr_z (back z) 4) ≡ shr_z z 4
shifted z f = ap (λ (k : ℤ). back (shr_z k 4)) (to_z-of_z {w = w16} f) ∙ to_z-of_z {w = w16} (record { sfits = lt_of_le_of_lt (mag_shr z 4) f.sfits })
