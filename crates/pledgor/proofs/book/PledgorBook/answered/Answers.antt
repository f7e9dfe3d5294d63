use Rattle.std.proofs.Common.{◌≡◌, true, Ok, ap, ◌∙◌, arith, rules, eq-eqb}
use Rattle.std.proofs.lemmas.Grind.{common_steps}
use Rattle.amounts.specs.Amounts.{due_amount}
use Rattle.annex.specs.Row.{checked_row}
use Rattle.day.specs.Days.{is_called}
use Rattle.pledgor.specs.Calls.{answer_of}
use Rattle.pledgor.specs.Lots.{terms_of, value_by}
use Rattle.pledgor.proofs.Ranges.{answering_called, table_fits_lem}
use Rattle.pledgor.proofs.book.PledgorBook.answered.Goals as goal

pub returns-in_err-value : goal.returns-in_err-value
returns-in_err-value c = let t = table_fits_lem c.args.self.now.state c.args.self.now.ranged in search rules

pub returns : goal.returns
returns c =
    let p = c.args.self.now.state in
    let r = c.args.row.now in
    let t = table_fits_lem p c.args.self.now.ranged in
    let x : checked_row r ≡ Ok c.in_ok-exposure.exposure.hundredths = c.in_ok-exposure.ensures in
    let v : c.in_ok-value.value ≡ value_by p r = grind (arith, common_steps) in
    let o : c.amount_due.result ≡ due_amount (terms_of p) c.in_ok-exposure.exposure.hundredths (value_by p r) = search rules in
    let a = c.answer_with.ensures ∙ ap (answer_of p) o in
    let k : is_called p.day.state ≡ true = search rules in
    answering_called p r c.in_ok-exposure.exposure.hundredths c.answer_with.result x (eq-eqb r.day p.day.number c.if-row-self.false) k a
