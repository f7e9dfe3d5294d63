use Rattle.std.proofs.Common.{◌≡◌, Ok, w64, SFits, sym, rules, arith}
use Rattle.std.proofs.lemmas.Int.{to_z-of_z}
use Rattle.secured.specs.Calls.{telling}
use Rattle.secured.specs.Weighs.{weighs}
use Rattle.secured.proofs.Sound.{notifying_found}
use Rattle.secured.proofs.book.SecuredBook.notified.Goals as goal

pub returns : goal.returns
returns c =
    let s = c.args.self.now.state in
    let r = c.args.row.now in
    let w = c.in_ok-weighing.weighing in
    let e : weighs s r ≡ Ok w = grind arith in
    let fits : SFits w64 w.exposure = search rules in
    let m : c.telling.result ≡ telling r.day w.exposure w.notice = simp to_z-of_z at c.telling.ensures in
    notifying_found s c.args.finding.now r w c.telling.result c.noticed.result e (sym c.if-not-is_of.ensures) m c.noticed.ensures
