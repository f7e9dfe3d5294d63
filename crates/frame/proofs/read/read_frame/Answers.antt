use Rattle.std.proofs.Common.{◌≡◌, ℕ, List, length, None, Err, inl, inr, sym, rules}
use Rattle.std.proofs.lemmas.Bool.{eqb-true, or_cases}
use Rattle.refusal.specs.declared.Refusal.{Refusal}
use Rattle.body.specs.Reading.{ReadsMessage}
use Rattle.frame.specs.declared.layout.Trailer.{Trailer}
use Rattle.frame.specs.Layout.{alone_tag, data_tag, unfit_trailer}
use Rattle.frame.specs.Packets.{Refused, Splits}
use Rattle.frame.proofs.Trailers.{fit}
use Rattle.frame.proofs.read.read_frame.Goals as goal

-- a fit trailer has one of two tags
tag_of_data : (len : ℕ) (t : Trailer) → unfit_trailer len t ≡ None → (t.tag ≡ alone_tag → ⊥) → t.tag ≡ data_tag
tag_of_data len t e other = elim (or_cases _ _ (fit len t e).tag) [ inl h ↦ eqb-true _ _ h | inr h ↦ absurd (other (eqb-true _ _ h)) ]

at_body : (xs body : List ℕ) (t : Trailer) (r : Refusal) → Splits xs body t → unfit_trailer (length xs) t ≡ None → (t.tag ≡ alone_tag → ⊥) → ReadsMessage t.number body (Err r) → Refused xs r
at_body xs body t r splits e other h = inr (body, t, splits, inr (h.0, e, inr (tag_of_data (length xs) t e other, h.1), h.2))

pub returns-in_err-read_message-clause-reads : goal.returns-in_err-read_message-clause-reads
returns-in_err-read_message-clause-reads c =
    let w = rw c.in_ok-t.ensures.ok_part at c.read.ensures in
    let s : Splits c.args.bytes.now c.split_at.result.0.now c.in_ok-t.t = search rules in
    let h : Refused c.args.bytes.now c.in_err-read_message.field-0.0 =
    at_body c.args.bytes.now c.split_at.result.0.now c.in_ok-t.t c.in_err-read_message.field-0.0 s (sym c.in_default.ensures) c.if-t-eq-ALONE.false c.in_err-read_message.ensures.reads in
    search rules
