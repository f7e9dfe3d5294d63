-- Calls and bookings keep the secured book covered, whatever the pledgor sends.
use Rattle.std.proofs.Common.{◌≡◌, ℕ, ◌+◌, ◌-◌, ◌<◌, ◌≤◌, Bool, true, false, cond, ◌&&◌, ◌||◌, eqb, ltb, leb, ◌≢◌, length, set, ℤ, pos, negsuc, ◌-ℤ◌, ◌<ℤ◌, sym, refl, ap, ◌∙◌, arith, length-set, get_or-set_other, ltb-true, leb-false, leb-true}
use borrow.Author.Tests.{clash}
use Rattle.std.proofs.lemmas.Int.{ints}
use Rattle.std.proofs.lemmas.Bool.{and_parts}
use Rattle.annex.specs.declared.agreed.Annex.{Annex}
use Rattle.annex.specs.declared.row.Row.{Row}
use Rattle.annex.proofs.Ranges.{agreed}
use Rattle.amounts.specs.declared.lots.Lot.{Lot}
use Rattle.amounts.specs.declared.lots.SecuredLot.{SecuredLot}
use Rattle.amounts.specs.declared.lots.SecuredLot.TheVariants.{Absent, Held}
use Rattle.amounts.specs.declared.weighing.Notice.TheVariants as notice
use Rattle.amounts.specs.Amounts.{adjusted, credit_support, delivery_amount, due_amount, natural, return_amount}
use Rattle.day.specs.declared.DayState.{DayState}
use Rattle.day.specs.declared.DayState.TheVariants as day
use Rattle.day.specs.Days.{day_in, is_called, is_calling, is_closing, is_disputed, is_offered, is_offering, is_open, is_released, is_settled}
use Rattle.message.specs.declared.Message.{Message}
use Rattle.message.specs.declared.Message.TheVariants.{Quiet, Call, Offer, Agree, Dispute, Resolve, Delivery, Substitute, Ask, Return, Decline, Satisfied, Release}
use Rattle.secured.specs.declared.state.SecuredState.{SecuredState}
use Rattle.secured.specs.Bookings.{books, fits, frees, lot_of, new_fits, old_fits, owe, replaces}
use Rattle.secured.specs.Calls.{noticed, with_day, with_lot}
use Rattle.secured.specs.Lots.{is_absent, is_held, lot_at, terms_of, value_by, value_now, worth, worth_at}
use Rattle.secured.specs.Opening.{opened}
use Rattle.secured.specs.Sound.{Covered, Kept, KeptIn}
use Rattle.secured.specs.Weighs.{weighing}
use Rattle.secured.proofs.Tables.{absent_held, adds_now, adds_absent, adds_held, adds_owed, value_set}

called_calling : (x : DayState) → is_called x ≡ true → is_calling x ≡ true
called_calling day.Unset e = e
called_calling day.Quiet e = e
called_calling day.Called e = e
called_calling day.Agreed e = refl
called_calling day.Disputed e = refl
called_calling day.Resolved e = refl
called_calling day.Offered e = e
called_calling day.Released e = e
called_calling day.Satisfied e = e

disputed_calling : (x : DayState) → is_disputed x ≡ true → is_calling x ≡ true
disputed_calling day.Unset e = e
disputed_calling day.Quiet e = e
disputed_calling day.Called e = refl
disputed_calling day.Agreed e = refl
disputed_calling day.Disputed e = e
disputed_calling day.Resolved e = refl
disputed_calling day.Offered e = e
disputed_calling day.Released e = e
disputed_calling day.Satisfied e = e

offered_offering : (x : DayState) → is_offered x ≡ true → is_offering x ≡ true
offered_offering day.Unset e = e
offered_offering day.Quiet e = e
offered_offering day.Called e = e
offered_offering day.Agreed e = e
offered_offering day.Disputed e = e
offered_offering day.Resolved e = e
offered_offering day.Offered e = e
offered_offering day.Released e = refl
offered_offering day.Satisfied e = e

-- in an offer no call is open, and the day is not settled
offered_only : (x : DayState) → is_offered x ≡ true → (is_calling x ≡ false) × (is_settled x ≡ false)
offered_only day.Unset e = absurd (clash e)
offered_only day.Quiet e = absurd (clash e)
offered_only day.Called e = absurd (clash e)
offered_only day.Agreed e = absurd (clash e)
offered_only day.Disputed e = absurd (clash e)
offered_only day.Resolved e = absurd (clash e)
offered_only day.Offered e = (refl, refl)
offered_only day.Released e = absurd (clash e)
offered_only day.Satisfied e = absurd (clash e)

-- V may rise, and with it what was delivered
kept_rises : (x : DayState) (c least v w b d e f a : ℕ) → v + e ≤ w + d → d ≤ e → KeptIn x c least v b d f a → KeptIn x c least w b e f a
kept_rises x c least v w b d e f a p q h = (
  (λ t. let m = h.0 t in (omega (arith, m.0), m.1)),
  (λ t. let m = h.1 t in (m.0, omega (arith, m.1), m.2)),
  (λ t. let m = h.2 t in omega (arith, m)),
)

module _ (s : SecuredState) (size : length s.lots ≡ 32) (h : Kept s) where
  -- with other entries, where V does not fall
  pub lots_kept : (l : ℕ) (x : SecuredLot) → value_now s ≤ value_now (with_lot s l x) → Kept (with_lot s l x)
  lots_kept l x p = kept_rises s.day.state _ _ (value_now s) _ _ s.delivered _ _ _ (omega arith) (omega arith) h

  new_parts : (l : ℕ) (x : Lot) → new_fits s l x ≡ true → (l < 32) × (is_absent (lot_at s l) ≡ true)
  new_parts l x t =
      let p = and_parts (ltb l 32) _ t in
      (ltb-true l 32 p.0, (and_parts _ (is_absent (lot_at s l)) p.1).1)

  old_parts : (l : ℕ) → old_fits s l ≡ true → (l < 32) × (is_held (lot_at s l) ≡ true)
  old_parts l t = let p = and_parts (ltb l 32) (is_held (lot_at s l)) t in (ltb-true l 32 p.0, p.1)

  -- a new lot adds its Value
  new_adds : (l : ℕ) (x : Lot) → new_fits s l x ≡ true → value_now (with_lot s l (Held x)) ≡ value_now s + worth s x
  new_adds l x t =
      let p = new_parts l x t in
      let i : l < length s.lots = omega (arith, p.0) in
      let v = value_set s l (Held x) i in
      let z = adds_absent s (lot_at s l) p.1 in
      omega arith

  delivery_kept : (n l c f : ℕ) → new_fits s l (lot_of c f) ≡ true → Kept (books s (Delivery n l c f))
  delivery_kept n l c f t = go (is_open s.day.state && eqb n s.day.number) where
    v : value_now (with_lot s l (Held (lot_of c f))) ≡ value_now s + worth s (lot_of c f)
    v = new_adds l (lot_of c f) t

    go : (b : Bool) → KeptIn s.day.state (credit_support (terms_of s) s.exposure) (terms_of s).pledgor_minimum (value_now (with_lot s l (Held (lot_of c f)))) s.before (cond b (s.delivered + worth s (lot_of c f)) s.delivered) s.freed s.day.amount
    go true = kept_rises s.day.state _ _ (value_now s) _ _ s.delivered _ _ _ (omega (arith, v)) (omega arith) h
    go false = kept_rises s.day.state _ _ (value_now s) _ _ s.delivered _ _ _ (omega (arith, v)) (omega arith) h

  substitute_rises : (l c f o : ℕ) → new_fits s l (lot_of c f) ≡ true → old_fits s o ≡ true → value_now s ≤ value_now (books s (Substitute l c f o))
  substitute_rises l c f o t u = go (replaces s (lot_of c f) o) refl where
    fresh : (l < 32) × (is_absent (lot_at s l) ≡ true)
    fresh = new_parts l (lot_of c f) t

    stale : (o < 32) × (is_held (lot_at s o) ≡ true)
    stale = old_parts o u

    ne : o ≢ l
    ne e = absent_held (lot_at s l) fresh.1 (ap (λ k. is_held (lot_at s k)) (sym e) ∙ stale.1)

    first : value_now (with_lot s l (Held (lot_of c f))) ≡ value_now s + worth s (lot_of c f)
    first = new_adds l (lot_of c f) t

    second : (x : SecuredLot) → value_now (with_lot (with_lot s l (Held (lot_of c f))) o x) + worth_at s (lot_at s o) ≡ value_now (with_lot s l (Held (lot_of c f))) + adds_now s x
    second x =
        let i : o < length (set s.lots l (Held (lot_of c f))) = omega (arith, stale.0, length-set s.lots l (Held (lot_of c f))) in
        let v = value_set (with_lot s l (Held (lot_of c f))) o x i in
        let e = ap (adds_now s) (get_or-set_other s.lots l o (Held (lot_of c f)) Absent ne) in
        let z = adds_held s (lot_at s o) stale.1 in
        omega arith

    go : (b : Bool) → replaces s (lot_of c f) o ≡ b → value_now s ≤ value_now (with_lot (with_lot s l (Held (lot_of c f))) o (owe b (lot_at s o)))
    go true e =
        let w = leb-true (worth_at s (lot_at s o)) (worth s (lot_of c f)) (and_parts (ltb 0 s.day.number) _ e).1 in
        let z = (adds_owed s (lot_at s o) stale.1).0 in
        let y = second (owe true (lot_at s o)) in
        omega (arith, first)
    go false e =
        let z = (adds_owed s (lot_at s o) stale.1).1 in
        let y = second (owe false (lot_at s o)) in
        omega (arith, first)

  substitute_kept : (l c f o : ℕ) → new_fits s l (lot_of c f) ≡ true → old_fits s o ≡ true → Kept (books s (Substitute l c f o))
  substitute_kept l c f o t u =
      let v = substitute_rises l c f o t u in
      kept_rises s.day.state _ _ (value_now s) _ _ s.delivered _ _ _ (omega arith) (omega arith) h

  ask_kept : (n l : ℕ) → old_fits s l ≡ true → Kept (books s (Ask n l))
  ask_kept n l t = go (frees s n l) refl where
    stale : (l < 32) × (is_held (lot_at s l) ≡ true)
    stale = old_parts l t

    set_one : (x : SecuredLot) → value_now (with_lot s l x) + worth_at s (lot_at s l) ≡ value_now s + adds_now s x
    set_one x =
        let i : l < length s.lots = omega (arith, stale.0) in
        let v = value_set s l x i in
        let y = adds_held s (lot_at s l) stale.1 in
        omega arith

    go : (b : Bool) → frees s n l ≡ b → KeptIn s.day.state (credit_support (terms_of s) s.exposure) (terms_of s).pledgor_minimum (value_now (with_lot s l (owe b (lot_at s l)))) s.before s.delivered (cond b (s.freed + worth_at s (lot_at s l)) s.freed) s.day.amount
    go true e =
        let q = and_parts (is_offered s.day.state && eqb n s.day.number) _ e in
        let o = (and_parts (is_offered s.day.state) (eqb n s.day.number) q.0).0 in
        let only = offered_only s.day.state o in
        let m = h.1 (offered_offering s.day.state o) in
        let w = leb-true (s.freed + worth_at s (lot_at s l)) s.day.amount q.1 in
        let v = set_one (owe true (lot_at s l)) in
        let z = (adds_owed s (lot_at s l) stale.1).0 in (
          (λ c. absurd (clash (sym only.0 ∙ c))),
          (λ _. (w, omega (arith, m.1), m.2)),
          (λ c. absurd (clash (sym only.1 ∙ c))),
        )
    go false e =
        let v = set_one (owe false (lot_at s l)) in
        let z = (adds_owed s (lot_at s l) stale.1).1 in
        kept_rises s.day.state _ _ (value_now s) _ _ s.delivered _ _ _ (omega arith) (omega arith) h

  -- booking a message that fits
  pub books_kept : (m : Message) → fits s m ≡ true → Kept (books s m)
  books_kept (Quiet n e) t = absurd (clash t)
  books_kept (Call n e a) t = absurd (clash t)
  books_kept (Offer n e a) t = absurd (clash t)
  books_kept (Agree n) t =
      let q = and_parts (is_called s.day.state && eqb n s.day.number) true t in
      let m = h.0 (called_calling s.day.state (and_parts (is_called s.day.state) _ q.0).0) in
      ((λ _. m), (λ c. absurd (clash c)), (λ c. absurd (clash c)))
  books_kept (Dispute n a) t =
      let q = and_parts (is_called s.day.state && (eqb n s.day.number && ltb a s.day.amount)) true t in
      let m = h.0 (called_calling s.day.state (and_parts (is_called s.day.state) _ q.0).0) in
      ((λ _. m), (λ c. absurd (clash c)), (λ c. absurd (clash c)))
  books_kept (Resolve n e a) t = absurd (clash t)
  books_kept (Delivery n l c f) t = delivery_kept n l c f (and_parts (leb n s.day.number) _ t).1
  books_kept (Substitute l c f o) t = let q = and_parts (new_fits s l (lot_of c f)) (old_fits s o) t in substitute_kept l c f o q.0 q.1
  books_kept (Ask n l) t = ask_kept n l (and_parts (leb n s.day.number) _ t).1
  books_kept (Return l) t = absurd (clash t)
  books_kept (Decline l) t = absurd (clash t)
  books_kept (Satisfied n) t = absurd (clash t)
  books_kept (Release n) t =
      let q = and_parts (is_offered s.day.state && eqb n s.day.number) true t in
      let m = h.1 (offered_offering s.day.state (and_parts (is_offered s.day.state) _ q.0).0) in
      ((λ c. absurd (clash c)), (λ _. m), (λ c. absurd (clash c)))

  -- resolving
  pub resolve_kept : (e : ℤ) → is_disputed s.day.state ≡ true → Kept (with_day s e (record { state = day.Resolved; number = s.day.number; amount = due_amount (terms_of s) e s.before }))
  resolve_kept e t = ((λ _. (m.0, go (leb (terms_of s).pledgor_minimum (credit_support (terms_of s) e - s.before)) refl)), (λ c. absurd (clash c)), (λ c. absurd (clash c))) where
    m : (s.before + s.delivered ≤ value_now s) × (credit_support (terms_of s) s.exposure < s.before + s.day.amount + (terms_of s).pledgor_minimum)
    m = h.0 (disputed_calling s.day.state t)

    go : (b : Bool) → leb (terms_of s).pledgor_minimum (credit_support (terms_of s) e - s.before) ≡ b → credit_support (terms_of s) e < s.before + cond b (credit_support (terms_of s) e - s.before) 0 + (terms_of s).pledgor_minimum
    go true w = let q = leb-true (terms_of s).pledgor_minimum (credit_support (terms_of s) e - s.before) w in let a = (agreed (terms_of s) s.annex.fit).pledgor_minimum_from in omega arith
    go false w = let q = leb-false (terms_of s).pledgor_minimum (credit_support (terms_of s) e - s.before) w in omega arith

  -- confirming
  pub confirm_kept : is_closing s.day.state ≡ true → (is_released s.day.state || leb s.day.amount s.delivered) ≡ true → Kept (with_day s s.exposure (day_in s.day day.Satisfied))
  confirm_kept t u = ((λ c. absurd (clash c)), (λ c. absurd (clash c)), (λ _. go s.day.state t u h)) where
    a : 1 ≤ (terms_of s).pledgor_minimum
    a = (agreed (terms_of s) s.annex.fit).pledgor_minimum_from

    go : (x : DayState) → is_closing x ≡ true → (is_released x || leb s.day.amount s.delivered) ≡ true →
        KeptIn x (credit_support (terms_of s) s.exposure) (terms_of s).pledgor_minimum (value_now s) s.before s.delivered s.freed s.day.amount → credit_support (terms_of s) s.exposure < value_now s + (terms_of s).pledgor_minimum
    go day.Unset t u k = absurd (clash t)
    go day.Quiet t u k = absurd (clash t)
    go day.Called t u k = absurd (clash t)
    go day.Agreed t u k = let m = k.0 refl in omega (arith, m.0, m.1, leb-true s.day.amount s.delivered u)
    go day.Disputed t u k = absurd (clash t)
    go day.Resolved t u k = let m = k.0 refl in omega (arith, m.0, m.1, leb-true s.day.amount s.delivered u)
    go day.Offered t u k = absurd (clash t)
    go day.Released t u k = let m = k.1 refl in omega (arith, m.0, m.1, m.2, a)
    go day.Satisfied t u k = absurd (clash t)

  -- replying: what the lot adds stays
  pub reply_kept : (l : ℕ) (x : SecuredLot) → l < 32 → adds_now s (lot_at s l) ≡ adds_now s x → Kept (with_lot s l x)
  reply_kept l x i e =
      let j : l < length s.lots = omega arith in
      let v = value_set s l x j in
      lots_kept l x (omega arith)

-- notifying
pub notify_kept : (s : SecuredState) (r : Row) (e : ℤ) → Kept (noticed s r (weighing s r e))
notify_kept s r e = go (leb (terms_of s).pledgor_minimum (delivery_amount (terms_of s) e (value_by s r))) (leb (terms_of s).secured_minimum (return_amount (terms_of s) e (value_by s r))) refl refl where
  go : (a b : Bool) → leb (terms_of s).pledgor_minimum (delivery_amount (terms_of s) e (value_by s r)) ≡ a → leb (terms_of s).secured_minimum (return_amount (terms_of s) e (value_by s r)) ≡ b →
      Kept (noticed s r (record { exposure = e; value = value_by s r; notice = cond a (notice.Call (delivery_amount (terms_of s) e (value_by s r))) (cond b (notice.Offer (return_amount (terms_of s) e (value_by s r))) notice.Quiet) }))
  go true b p q = let m = (agreed (terms_of s) s.annex.fit).pledgor_minimum_from in ((λ _. (omega arith, omega arith)), (λ c. absurd (clash c)), (λ c. absurd (clash c)))
  go false true p q =
      let m = (agreed (terms_of s) s.annex.fit).secured_minimum_from in
      let l = leb-true (terms_of s).secured_minimum (return_amount (terms_of s) e (value_by s r)) q in
      ((λ c. absurd (clash c)), (λ _. (omega arith, omega arith, omega arith)), (λ c. absurd (clash c)))
  go false false p q =
      let l = leb-false (terms_of s).pledgor_minimum (delivery_amount (terms_of s) e (value_by s r)) p in
      ((λ c. absurd (clash c)), (λ c. absurd (clash c)), (λ _. omega arith))

pub opened_kept : (a : Annex) → Kept (opened a)
opened_kept a = ((λ c. absurd (clash c)), (λ c. absurd (clash c)), (λ c. absurd (clash c)))

natural_below : (z : ℤ) (n : ℕ) → natural z < n → z <ℤ pos n
natural_below (pos k) n h = omega (arith, ints)
natural_below (negsuc k) n h = omega (arith, ints)

-- what is kept covers a quiet or satisfied day
pub kept_covered : (s : SecuredState) → Kept s → Covered s
kept_covered s h t =
    let z = natural_below (adjusted (terms_of s) s.exposure -ℤ pos (terms_of s).threshold) (value_now s + (terms_of s).pledgor_minimum) (h.2 t) in
    omega (arith, ints)
