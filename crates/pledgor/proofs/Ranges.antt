-- Calls and bookings keep the pledgor's lots in range.
use Rattle.std.proofs.Common.{◌≡◌, ℕ, ◌-◌, ◌<◌, ◌≤◌, Bool, true, false, cond, ◌&&◌, eqb, ltb, leb, ◌≢◌, List, map, length, get_or, replicate, ℤ, Some, IfOk, Ok, Err, Result, sym, refl, ap, ◌∙◌, subst, ⊎_elim, arith, length-append, length-set, ltb-true, eqb-true, le-leb, leb-false, leb-true}
use lib.ListN.{length-replicate}
use borrow.Author.Tests.{clash, eqb-false}
use Rattle.std.proofs.lemmas.List.Sums.{list_all-from_AllPass}
use Rattle.std.proofs.lemmas.List.{get_or_append_left, get_or-append_right, get_or-map, get_or_default, get_or-set_same, get_or-set_other, length-map}
use Rattle.std.proofs.lemmas.Bool.{and_parts, cases_lt}
use Rattle.std.proofs.lemmas.Option.{cond_some}
use Rattle.refusal.specs.declared.Refusal.{Refusal}
use Rattle.annex.specs.declared.agreed.Annex.{Annex}
use Rattle.annex.specs.declared.row.Row.{Row}
use Rattle.std.specs.List.{list_all}
use Rattle.annex.specs.Row.{checked_row}
use Rattle.annex.proofs.Tests.{every_at}
use Rattle.amounts.specs.declared.lots.Lot.{Lot}
use Rattle.amounts.specs.declared.lots.Place.{Place}
use Rattle.amounts.specs.declared.lots.Place.TheVariants.{Home, Posted, Asked}
use Rattle.amounts.specs.declared.lots.PledgorLot.{PledgorLot}
use Rattle.amounts.specs.Amounts.{due_amount}
use Rattle.amounts.specs.Lots.{counted_fits, counts_at_pledgor, lot_fits, table_fits}
use Rattle.day.specs.declared.DayState.TheVariants as day
use Rattle.day.specs.Days.{is_called, is_offered, is_open}
use Rattle.message.specs.declared.Message.{Message}
use Rattle.message.specs.declared.Message.TheVariants.{Quiet, Call, Offer, Agree, Dispute, Resolve, Delivery, Substitute, Ask, Return, Decline, Satisfied, Release}
use Rattle.pledgor.specs.declared.state.PledgorState.{PledgorState}
use Rattle.pledgor.specs.Bookings.{asked_at, booked, books, fits}
use Rattle.pledgor.specs.Calls.{PledgorCall, answer, deliver, substitute, ask, release, answering, answer_of, drafts, with_day, with_lot}
use Rattle.pledgor.specs.Lots.{home_at, is_asked, is_home, is_posted, lot_at, moved, no_lot, posted_at, terms_of, value_by}
use Rattle.pledgor.specs.Opening.{at_home, opened}
use Rattle.pledgor.specs.Sound.{Ranged}
use Rattle.pledgor.proofs.Tables.{repeated}

home_asked : (x : Place) → is_home x ≡ true → is_asked x ≡ true → ⊥
home_asked Home h a = clash a
home_asked Posted h a = clash h
home_asked Asked h a = clash h

module _ (p : PledgorState) (r : Ranged p) where
  -- a lot that is asked is the pledgor's own
  asked_below : (l : ℕ) → is_asked (lot_at p l).place ≡ true → l < p.count
  asked_below l a = go (leb p.count l) refl where
    go : (b : Bool) → leb p.count l ≡ b → l < p.count
    go true e = absurd (home_asked (lot_at p l).place (r.3 l (leb-true p.count l e)) a)
    go false e = leb-false p.count l e

  module _ (l : ℕ) (y : Place) (i : l < p.count) where
    other_same : (k : ℕ) → k ≢ l → lot_at (with_lot p l y) k ≡ lot_at p k
    other_same k ne = get_or-set_other p.lots l k (moved (lot_at p l) y) no_lot ne

    moved_lot : (k : ℕ) → (lot_at (with_lot p l y) k).lot ≡ (lot_at p k).lot
    moved_lot k = go (eqb k l) refl where
      go : (b : Bool) → eqb k l ≡ b → (lot_at (with_lot p l y) k).lot ≡ (lot_at p k).lot
      go true e =
          let same = eqb-true k l e in
          let j : l < length p.lots = omega (arith, r.0, r.1) in
          subst (λ m. (lot_at (with_lot p l y) m).lot ≡ (lot_at p m).lot) (sym same) (ap (λ x. x.lot) (get_or-set_same p.lots l (moved (lot_at p l) y) no_lot j))
      go false e = ap (λ x. x.lot) (other_same k (eqb-false k l e))

    -- a lot of the pledgor's own at another place
    pub move_ranged : Ranged (with_lot p l y)
    move_ranged = (
      r.0,
      length-set p.lots l (moved (lot_at p l) y) ∙ r.1,
      (λ k h. ap lot_fits (moved_lot k) ∙ r.2 k h),
      (λ k h. let ne : k ≢ l = omega arith in ap (λ x. is_home x.place) (other_same k ne) ∙ r.3 k h),
    )

  -- every lot that is posted is in range
  pub table_fits_lem : table_fits counts_at_pledgor p.lots ≡ true
  table_fits_lem = rw (le-leb (length p.lots) 32 (omega (arith, r.1))) (list_all-from_AllPass (λ x. counted_fits (counts_at_pledgor x)) p.lots (λ k d h. ap (λ x. counted_fits (counts_at_pledgor x)) (get_or_default p.lots k d no_lot h) ∙ go k (leb p.count k) refl)) where
    home : (x : PledgorLot) → is_home x.place ≡ true → counted_fits (counts_at_pledgor x) ≡ true
    home x f = place x.place f where
      place : (y : Place) → is_home y ≡ true → counted_fits (counts_at_pledgor (moved x y)) ≡ true
      place Home h = refl
      place Posted h = absurd (clash h)
      place Asked h = refl

    own : (x : PledgorLot) → lot_fits x.lot ≡ true → counted_fits (counts_at_pledgor x) ≡ true
    own x f = place x.place where
      place : (y : Place) → counted_fits (counts_at_pledgor (moved x y)) ≡ true
      place Home = refl
      place Posted = f
      place Asked = refl

    go : (k : ℕ) (b : Bool) → leb p.count k ≡ b → counted_fits (counts_at_pledgor (lot_at p k)) ≡ true
    go k true e = home (lot_at p k) (r.3 k (leb-true p.count k e))
    go k false e = own (lot_at p k) (r.2 k (leb-false p.count k e))

  asked_own : (l : ℕ) → asked_at p l ≡ true → l < p.count
  asked_own l t = asked_below l (and_parts (ltb l 32) (is_asked (lot_at p l).place) t).1

  pub books_ranged : (m : Message) → fits p m ≡ true → Ranged (books p m)
  books_ranged (Quiet n e) t = r
  books_ranged (Call n e a) t = r
  books_ranged (Offer n e a) t = r
  books_ranged (Agree n) t = r
  books_ranged (Dispute n a) t = r
  books_ranged (Resolve n e a) t = r
  books_ranged (Delivery n l c f) t = r
  books_ranged (Substitute l c f o) t = r
  books_ranged (Ask n l) t = r
  books_ranged (Return l) t = move_ranged l Home (asked_own l t)
  books_ranged (Decline l) t = move_ranged l Posted (asked_own l t)
  books_ranged (Satisfied n) t = r
  books_ranged (Release n) t = r

  Drafted : Result (Message × PledgorState) Refusal → Type 0
  Drafted x = IfOk x (λ z. Ranged z.1)

  behind : (b : Bool) (x : Result (Message × PledgorState) Refusal) (e : Refusal) → (b ≡ true → Drafted x) → Drafted (cond b x (Err e))
  unfolding Drafted
  behind true x e h = h refl
  behind false x e h = tt

  own_home : (l : ℕ) → home_at p l ≡ true → l < p.count
  own_home l t = ltb-true l p.count (and_parts (ltb l p.count) (is_home (lot_at p l).place) t).0

  own_posted : (l : ℕ) → posted_at p l ≡ true → l < p.count
  own_posted l t = ltb-true l p.count (and_parts (ltb l p.count) (is_posted (lot_at p l).place) t).0

  answer_ranged : (own : ℕ) → Ranged (answer_of p own).1
  answer_ranged own = go (leb p.day.amount own) where
    go : (b : Bool) → Ranged (cond {A = Message × PledgorState} b (Agree p.day.number, with_day p day.Agreed) (Dispute p.day.number own, with_day p day.Disputed)).1
    go true = r
    go false = r

  answers : (row : Row) (x : Result ℤ Refusal) → Drafted (answering p row x)
  unfolding Drafted
  answers row (Err x) = tt
  answers row (Ok e) = behind (eqb row.day p.day.number) _ _ (λ _. behind (is_called p.day.state) _ _ (λ _. answer_ranged (due_amount (terms_of p) e (value_by p row))))

-- an answer to a call by a row of its day
pub answering_called : (p : PledgorState) (r : Row) (e : ℤ) (z : Message × PledgorState) → checked_row r ≡ Ok e → eqb r.day p.day.number ≡ true → is_called p.day.state ≡ true → z ≡ answer_of p (due_amount (terms_of p) e (value_by p r)) → Ok z ≡ answering p r (checked_row r)
answering_called p r e z x h k q = rw (x, h, k) (cc)

-- what a call leaves
drafts_ranged : (p : PledgorState) → Ranged p → (c : PledgorCall) → IfOk (drafts p c) (λ z. Ranged z.1)
unfolding Drafted
drafts_ranged p r (answer row) = answers p r row (checked_row row)
drafts_ranged p r (deliver l) = behind p r (home_at p l) _ _ (λ t. behind p r (is_open p.day.state) _ _ (λ _. move_ranged p r l Posted (own_home p r l t)))
drafts_ranged p r (substitute new old) = behind p r (home_at p new && posted_at p old) _ _ (λ t.
    let q = and_parts (home_at p new) (posted_at p old) t in
    move_ranged (with_lot p new Posted) (move_ranged p r new Posted (own_home p r new q.0)) old Asked (own_posted p r old q.1))
drafts_ranged p r (ask l) = behind p r (posted_at p l) _ _ (λ t. behind p r (is_offered p.day.state) _ _ (λ _. move_ranged p r l Asked (own_posted p r l t)))
drafts_ranged p r release = behind p r (is_offered p.day.state) _ _ (λ _. r)

pub drafted_ranged : (p : PledgorState) → Ranged p → (c : PledgorCall) (m : Message) (q : PledgorState) → drafts p c ≡ Ok (m, q) → Ranged q
drafted_ranged p r c m q e = subst (λ y. IfOk y (λ z. Ranged z.1)) e (drafts_ranged p r c)

-- the book after a message that fits
pub booked_ranged : (p : PledgorState) → Ranged p → (m : Message) (q : PledgorState) → booked p m ≡ Some q → Ranged q
booked_ranged p r m q e = let b = cond_some (fits p m) (books p m) q e in subst Ranged b.1 (books_ranged p r m b.0)

-- the book as opened
module _ (a : Annex) (ls : List Lot) where
  opened_past : (k : ℕ) → length ls ≤ k → lot_at (opened a ls) k ≡ no_lot
  opened_past k i = get_or-append_right (map at_home ls) (replicate (32 - length ls) no_lot) (length ls) k no_lot (length-map ls at_home) i ∙ repeated (32 - length ls) (k - length ls) no_lot

  opened_at : (k : ℕ) → k < length ls → lot_at (opened a ls) k ≡ at_home (get_or ls k no_lot.lot)
  opened_at k i =
      let j : k < length (map at_home ls) = omega (arith, length-map ls at_home) in
      get_or_append_left (map at_home ls) (replicate (32 - length ls) no_lot) no_lot k j ∙ get_or-map at_home ls k no_lot.lot no_lot i

  -- all lots are home
  pub opened_home : (k : ℕ) → (lot_at (opened a ls) k).place ≡ Home
  opened_home k = ⊎_elim (λ h. ap (λ x. x.place) (opened_at k h)) (λ h. ap (λ x. x.place) (opened_past k h)) (cases_lt k (length ls))

  -- and in range
  pub opened_ranged : length ls ≤ 32 → list_all lot_fits ls ≡ true → Ranged (opened a ls)
  opened_ranged h e = (
    h,
    (let x = length-append (map at_home ls) (replicate (32 - length ls) no_lot) in let y = length-map ls at_home in let z = length-replicate (32 - length ls) no_lot in omega arith),
    (λ k i. ap (λ y. lot_fits y.lot) (opened_at k i) ∙ every_at lot_fits no_lot.lot ls e k i),
    (λ k i. ap (λ y. is_home y.place) (opened_past k i)),
  )
