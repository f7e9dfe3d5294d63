use Rattle.std.proofs.Common.{◌≡◌, true, arith, rules}
use Rattle.day.specs.Days.{is_calling}
use Rattle.secured.proofs.Ranges.{value_within}
use Rattle.secured.proofs.book.SecuredBook.booked_delivery.Goals as goal

pub overflow_add-delivered : goal.overflow_add-delivered
overflow_add-delivered c =
    let b = c.args.self.now in
    let s = b.state in
    let o : is_calling s.day.state ≡ true = search rules in
    let m = b.kept.0 o in
    let v = value_within s b.ranged s.row b.ranged.0 in
    omega (arith, m.0, v, c.worth-delivered.ensures.bound)
