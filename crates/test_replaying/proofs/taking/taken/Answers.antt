-- The lines end within their room.
use Rattle.std.proofs.Common.{◌≡◌, length, sym, arith, rules, length-take-le}
use Rattle.listing.proofs.Appending.{ends_within}
use Rattle.listing.proofs.Lines.{first_lines_length}
use Rattle.test_replaying.proofs.taking.taken.Goals as goal

pub slice_bounds-lines-end : goal.slice_bounds-lines-end
slice_bounds-lines-end g c =
    let long : length c.take.new.out ≡ 256 = search rules in
    let e = ends_within (first_lines_length c.in-Ok.count c.take.new.out long) (omega arith) c.diagnostic_lines-end.ensures in
    omega (arith, e.1)

pub slice_bounds-bytes-length : goal.slice_bounds-bytes-length
slice_bounds-bytes-length g c =
    let long : length c.take.new.out ≡ 256 = search rules in
    let e = ends_within (first_lines_length c.in-Ok.count c.take.new.out long) (omega arith) c.diagnostic_lines-end.ensures in
    sym (length-take-le _ _ (omega (arith, e.1)))
