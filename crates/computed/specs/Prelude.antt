-- Need not be believed: nothing is defined here. The library's own words of numbers, tests and lists, and the entries of a list, under one name.
pub use Rattle.std.specs.Prelude.{ℕ, zero, suc, ◌+◌, ◌-◌, ◌*◌, ◌/◌, ◌%◌, ◌^◌, ◌≤◌, ◌<◌, min, Bool, true, false, not, ◌&&◌, ◌||◌, cond, List, [], ◌∷◌, ◌++◌, ◌≡◌, refl, leb, ltb, eqb, length, get_or, set, take, drop, replicate, ℤ, pos, negsuc, nat_abs, if◌then◌else◌}
pub use Rattle.std.specs.Int.Bits.{bit_and, bit_or}
pub use Rattle.std.specs.Int.Signed.{le_z, shr_z}
pub use Rattle.computed.specs.Entries.{At, entry}
