-- Calls and bookings keep the secured book in range.
use Rattle.std.proofs.Common.{◌≡◌, ℕ, ◌≤◌, Bool, true, ltb, leb, ℤ, Some, None, Option, refl, ◌∙◌, arith, length-set}
use Rattle.std.proofs.lemmas.Bool.{and_parts}
use Rattle.annex.specs.declared.agreed.Annex.{Annex}
use Rattle.annex.specs.declared.row.Row.{Row}
use Rattle.std.specs.List.{list_all}
use Rattle.annex.specs.Row.{exposure_fits, price_fits}
use Rattle.annex.proofs.Ranges.{Checked}
use Rattle.amounts.specs.declared.lots.SecuredLot.{SecuredLot}
use Rattle.amounts.specs.declared.lots.SecuredLot.TheVariants.{Held}
use Rattle.amounts.specs.Lots.{counts_at_secured, lot_fits}
use Rattle.amounts.proofs.Values.{total_within}
use Rattle.day.specs.declared.Day.{Day}
use Rattle.message.specs.declared.Message.{Message}
use Rattle.message.specs.declared.Message.TheVariants.{Quiet, Call, Offer, Agree, Dispute, Resolve, Delivery, Substitute, Ask, Return, Decline, Satisfied, Release}
use Rattle.secured.specs.declared.state.SecuredState.{SecuredState}
use Rattle.secured.specs.Bookings.{books, fits, frees, lot_of, new_fits, old_fits, owe, replaces}
use Rattle.secured.specs.Calls.{exposure_or, noticed, resolve_fits, with_day, with_lot}
use Rattle.secured.specs.Lots.{is_absent, lot_at, terms_of, value_by}
use Rattle.secured.specs.Opening.{opened}
use Rattle.secured.specs.Sound.{Ranged}
use Rattle.secured.specs.Weighs.{weighing}
use Rattle.secured.proofs.Tables.{entry_fits, entry_at, owe_fits, table_set}

module _ (s : SecuredState) (r : Ranged s) where
  -- V is at most 6.4 × 10^11
  pub value_within : (row : Row) → list_all price_fits row.prices ≡ true → value_by s row ≤ 640000000000
  value_within row k = total_within counts_at_secured s.lots r.1 (terms_of s) row s.annex.fit k

  pub lot_ranged : (l : ℕ) (x : SecuredLot) → entry_fits x ≡ true → Ranged (with_lot s l x)
  lot_ranged l x h = (r.0, table_set s.lots l x r.1 h, r.2, length-set s.lots l x ∙ r.3, r.4)

  pub day_ranged : (e : ℤ) (d : Day) → exposure_fits e ≡ true → Ranged (with_day s e d)
  day_ranged e d h = (r.0, r.1, h, r.3, r.4)

  pub notice_ranged : (row : Row) (e : ℤ) → Checked row e → Ranged (noticed s row (weighing s row e))
  notice_ranged row e k = (k.prices_fit, r.1, k.exposure_fits_lem, r.3, value_within row k.prices_fit)

  pub resolve_in_range : (o : Option ℤ) → resolve_fits o ≡ true → exposure_fits (exposure_or o s.exposure) ≡ true
  resolve_in_range None h = r.2
  resolve_in_range (Some e) h = h

  new_fits_lem : (l c f : ℕ) → new_fits s l (lot_of c f) ≡ true → lot_fits (lot_of c f) ≡ true
  new_fits_lem l c f t = (and_parts (lot_fits (lot_of c f)) (is_absent (lot_at s l)) (and_parts (ltb l 32) _ t).1).0

  new_ranged : (l c f : ℕ) → new_fits s l (lot_of c f) ≡ true → Ranged (with_lot s l (Held (lot_of c f)))
  new_ranged l c f t = lot_ranged l (Held (lot_of c f)) (new_fits_lem l c f t)

  old_fits_lem : (b : Bool) (l : ℕ) → entry_fits (owe b (lot_at s l)) ≡ true
  old_fits_lem b l = owe_fits b (lot_at s l) (entry_at s.lots l r.1)

-- booking a message that fits
pub books_ranged : (s : SecuredState) → Ranged s → (m : Message) → fits s m ≡ true → Ranged (books s m)
books_ranged s r (Quiet n e) t = r
books_ranged s r (Call n e a) t = r
books_ranged s r (Offer n e a) t = r
books_ranged s r (Agree n) t = r
books_ranged s r (Dispute n a) t = r
books_ranged s r (Resolve n e a) t = r
books_ranged s r (Delivery n l c f) t = new_ranged s r l c f (and_parts (leb n s.day.number) _ t).1
books_ranged s r (Substitute l c f o) t =
    let q = and_parts (new_fits s l (lot_of c f)) (old_fits s o) t in
    lot_ranged (with_lot s l (Held (lot_of c f))) (new_ranged s r l c f q.0) o (owe (replaces s (lot_of c f) o) (lot_at s o)) (old_fits_lem s r (replaces s (lot_of c f) o) o)
books_ranged s r (Ask n l) t = lot_ranged s r l (owe (frees s n l) (lot_at s l)) (old_fits_lem s r (frees s n l) l)
books_ranged s r (Return l) t = r
books_ranged s r (Decline l) t = r
books_ranged s r (Satisfied n) t = r
books_ranged s r (Release n) t = r

-- the book as opened
pub opened_ranged : (a : Annex) → Ranged (opened a)
opened_ranged a = (refl, refl, refl, refl, omega arith)
