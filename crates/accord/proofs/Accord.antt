-- The accord of the two books is kept by every call and every booking.
use Rattle.std.proofs.Common.{◌≡◌, ℕ, ◌<◌, Bool, true, false, cond, ◌&&◌, ◌||◌, eqb, ltb, leb, List, [], ◌∷◌, ◌++◌, length, ℤ, Ok, Err, Result, sym, refl, ap, ◌∙◌, subst, arith, set, length-set}
use Rattle.std.proofs.lemmas.Bool.{ltb-true, leb-false, lt-ltb, le-leb, eq-eqb, and_parts, and_from}
use Rattle.refusal.specs.declared.Refusal.{Refusal}
use Rattle.refusal.specs.declared.Refusal.TheVariants as refused
use Rattle.annex.specs.declared.row.Row.{Row}
use Rattle.annex.specs.Row.{checked_row}
use Rattle.amounts.specs.declared.lots.Place.TheVariants.{Posted, Asked}
use Rattle.amounts.specs.declared.lots.PledgorLot.{PledgorLot}
use Rattle.amounts.specs.declared.lots.SecuredLot.{SecuredLot}
use Rattle.amounts.specs.declared.lots.SecuredLot.TheVariants.{Absent, Held, OwedBack, DeclineOwed}
use Rattle.amounts.specs.declared.weighing.Notice.{Notice}
use Rattle.amounts.specs.declared.weighing.Notice.TheVariants as notice
use Rattle.amounts.specs.Amounts.{due_amount}
use Rattle.day.specs.declared.DayState.{DayState}
use Rattle.day.specs.declared.DayState.TheVariants as day
use Rattle.day.specs.Days.{day_in, is_called, is_closing, is_disputed, is_ended, is_offered, is_open, is_released}
use Rattle.message.specs.declared.Message.{Message}
use Rattle.message.specs.declared.Message.TheVariants.{Quiet, Call, Offer, Agree, Dispute, Resolve, Delivery, Substitute, Ask, Return, Decline, Satisfied, Release}
use Rattle.secured.specs.declared.state.Finding.{Finding}
use Rattle.secured.specs.declared.state.SecuredState.{SecuredState}
use Rattle.secured.specs.declared.state.Weighing.{Weighing}
use Rattle.secured.specs.Bookings as secured
use Rattle.secured.specs.Bookings.{answer_fits, answered, lot_of}
use Rattle.secured.specs.Calls as secured_calls
use Rattle.secured.specs.Calls.{SecuredCall, notify, resolve, confirm, reply, beginning, confirming, exposure_or, noticed, notifying, replying, resolve_fits, resolving, telling}
use Rattle.secured.specs.Lots as holds
use Rattle.secured.specs.Weighs.{same_notice, weighing, weighs}
use Rattle.pledgor.specs.declared.state.PledgorState.{PledgorState}
use Rattle.pledgor.specs.Bookings as pledgor
use Rattle.pledgor.specs.Bookings.{notice_fits}
use Rattle.pledgor.specs.Calls as pledgor_calls
use Rattle.pledgor.specs.Calls.{PledgorCall, answer, deliver, substitute, ask, release, answer_of, answering}
use Rattle.pledgor.specs.Lots as posts
use Rattle.pledgor.specs.Lots.{home_at, is_home, is_posted, posted_at}
use Rattle.pledgor.specs.Sound.{Ranged}
use Rattle.secured.proofs.Cover.{books_kept, notify_kept, resolve_kept, confirm_kept, reply_kept}
use Rattle.secured.proofs.Tables.{adds_now}
use Rattle.pledgor.proofs.Ranges.{books_ranged, drafted_ranged}
use Rattle.accord.specs.Standing.{about}
use Rattle.accord.specs.Accord.{Accord, Days, Lots, dated}
use Rattle.accord.proofs.Lots.{secured_fit, secured_book, pledgor_fit, pledgor_book, none_forth, none_back, return_issue, decline_issue, deliver_issue, ask_issue, substitute_issue, with_lots}
use Rattle.accord.proofs.Days.{waits, ended_waits, disputed_waits, closing_waits, called_waits, offered_waits, notice_issue, reply_issue, answer_issue, lots_issue, answer_fit, notice_fit, answer_book, notice_book}

-- what a call issues behind a test
refuses : {A E : Type 0} (P : A → Type 0) (r : E) (y : A) → ◌≡◌ {A = Result A E} (Err r) (Ok y) → P y
refuses P r y e = let z : ◌≡◌ {A = ℕ} 0 1 = cc in let w : ⊥ = omega arith in absurd w

gives : {A E : Type 0} (P : A → Type 0) (x y : A) → ◌≡◌ {A = Result A E} (Ok x) (Ok y) → P x → P y
gives P x y e k = let z : x ≡ y = cc in subst P z k

behind : {A E : Type 0} (P : A → Type 0) (b : Bool) (x : Result A E) (r : E) (y : A) → cond b x (Err r) ≡ Ok y → (b ≡ true → x ≡ Ok y → P y) → P y
behind P true x r y e k = k refl e
behind P false x r y e k = refuses P r y e

pub passed : {A E : Type 0} (P : A → Type 0) (b : Bool) (x : A) (r : E) (y : A) → cond b (Ok x) (Err r) ≡ Ok y → (b ≡ true → P x) → P y
passed P b x r y e k = behind P b (Ok x) r y e (λ t q. gives P x y q (k t))

-- a row that is weighed is of a later day after an ended one, and comes to what its exposure makes of it
weighs_is : (s : SecuredState) (r : Row) (w : Weighing) (P : Weighing → Type 0) → weighs s r ≡ Ok w → ((e : ℤ) → is_ended s.day.state ≡ true → ltb s.day.number r.day ≡ true → P (weighing s r e)) → P w
weighs_is s r w P q k = behind P (is_ended s.day.state && ltb s.day.number r.day) _ refused.Day w q (λ t h. go t (checked_row r) refl) where
  go : (is_ended s.day.state && ltb s.day.number r.day) ≡ true → (o : Result ℤ Refusal) → checked_row r ≡ o → P w
  go t (Err x) e = let z : weighs s r ≡ Err x = rw (t, e) refl in refuses P x w (sym z ∙ q)
  go t (Ok x) e =
      let z : weighs s r ≡ Ok (weighing s r x) = rw (t, e) refl in
      let b = and_parts (is_ended s.day.state) (ltb s.day.number r.day) t in
      gives P (weighing s r x) w (sym z ∙ q) (k x b.0 b.1)

-- booking keeps the table's length
secured_length : (s : SecuredState) (m : Message) → length (secured.lots_after s m) ≡ length s.lots
secured_length s (Quiet n e) = refl
secured_length s (Call n e a) = refl
secured_length s (Offer n e a) = refl
secured_length s (Agree n) = refl
secured_length s (Dispute n a) = refl
secured_length s (Resolve n e a) = refl
secured_length s (Delivery n l c f) = length-set s.lots l (Held (lot_of c f))
secured_length s (Substitute l c f o) =
    length-set (set s.lots l (Held (lot_of c f))) o (secured.owe (secured.replaces s (lot_of c f) o) (holds.lot_at s o)) ∙ length-set s.lots l (Held (lot_of c f))
secured_length s (Ask n l) = length-set s.lots l (secured.owe (secured.frees s n l) (holds.lot_at s l))
secured_length s (Return l) = refl
secured_length s (Decline l) = refl
secured_length s (Satisfied n) = refl
secured_length s (Release n) = refl

module _ (s : SecuredState) (p : PledgorState) (xs ys : List Message) where
  -- the next message fits, and booking it keeps the accord

  pub secured_fits : (m : Message) → Accord s p xs (m ∷ ys) → secured.fits s m ≡ true
  secured_fits m h =
      let t = answer_fit s.day p.day xs ys m h.days in
      and_from (answer_fits s.day m) (secured.lots_fit s m) t (secured_fit s p xs ys h.ranged m t h.lots)

  pub pledgor_fits : (m : Message) → Accord s p (m ∷ xs) ys → pledgor.fits p m ≡ true
  pledgor_fits m h =
      let t = notice_fit s.day p.day xs ys m h.days in
      and_from (notice_fits p.day m) (pledgor.lots_fit p m) t (pledgor_fit s p xs ys h.ranged m t h.lots)

  pub secured_books : (m : Message) → Accord s p xs (m ∷ ys) → Accord (secured.books s m) p xs ys
  secured_books m h =
      let t = secured_fits m h in
      record {
        terms = h.terms;
        lots = secured_book s p xs ys h.size m (and_parts (answer_fits s.day m) (secured.lots_fit s m) t).1 h.lots;
        days = answer_book s.day p.day xs ys m h.days;
        kept = books_kept s h.size h.kept m t;
        size = secured_length s m ∙ h.size;
        ranged = h.ranged;
      }

  pub pledgor_books : (m : Message) → Accord s p (m ∷ xs) ys → Accord s (pledgor.books p m) xs ys
  pledgor_books m h =
      let t = pledgor_fits m h in
      record {
        terms = h.terms;
        lots = pledgor_book s p xs ys h.ranged m (and_parts (notice_fits p.day m) (pledgor.lots_fit p m) t).1 h.lots;
        days = notice_book s.day p.day xs ys m h.days;
        kept = h.kept;
        size = h.size;
        ranged = books_ranged p h.ranged m t;
      }

  -- what a call of the secured end leaves
  Forth : Message × SecuredState → Type 0
  Forth z = Accord z.1 p (xs ++ (z.0 ∷ [])) ys

  module _ (h : Accord s p xs ys) where
    notice_about : (n : ℕ) (e : ℤ) (x : Notice) (k : ℕ) → about k (telling n e x) ≡ []
    notice_about n e notice.Quiet k = refl
    notice_about n e (notice.Call a) k = refl
    notice_about n e (notice.Offer a) k = refl

    notice_days : (n : ℕ) (e : ℤ) (x : Notice) → is_ended s.day.state ≡ true → ltb s.day.number n ≡ true → Days (beginning n x) p.day (xs ++ (telling n e x ∷ [])) ys
    notice_days n e notice.Quiet t u = notice_issue s.day p.day xs ys (Quiet n e) (ended_waits s.day.state t) (and_from (is_ended s.day.state) (ltb s.day.number n) t u) h.days
    notice_days n e (notice.Call a) t u = notice_issue s.day p.day xs ys (Call n e a) (ended_waits s.day.state t) (and_from (is_ended s.day.state) (ltb s.day.number n) t u) h.days
    notice_days n e (notice.Offer a) t u = notice_issue s.day p.day xs ys (Offer n e a) (ended_waits s.day.state t) (and_from (is_ended s.day.state) (ltb s.day.number n) t u) h.days

    Noticed : Row → Weighing → Type 0
    Noticed r w = Forth (telling r.day w.exposure w.notice, noticed s r w)

    notice_forth : (r : Row) (e : ℤ) → is_ended s.day.state ≡ true → ltb s.day.number r.day ≡ true → Noticed r (weighing s r e)
    unfolding Forth Noticed
    notice_forth r e t u =
        let w = weighing s r e in
        record {
          terms = h.terms;
          lots = none_forth s p xs ys (telling r.day e w.notice) (notice_about r.day e w.notice) h.lots;
          days = notice_days r.day e w.notice t u;
          kept = notify_kept s r e;
          size = h.size;
          ranged = h.ranged;
        }

    notify_issue : (f : Finding) (r : Row) (x : Result Weighing Refusal) → weighs s r ≡ x → (z : Message × SecuredState) → notifying s f r x ≡ Ok z → Forth z
    unfolding Noticed
    notify_issue f r (Err x) q z e = refuses Forth refused.WeighingDiffers z e
    notify_issue f r (Ok w) q z e =
        passed Forth (eqb f.day r.day && same_notice f.notice w.notice) (telling r.day w.exposure w.notice, noticed s r w) refused.WeighingDiffers z e
        (λ _. weighs_is s r w (Noticed r) q (λ x t u. notice_forth r x t u))

    same_day : eqb s.day.number s.day.number ≡ true
    same_day = eq-eqb s.day.number s.day.number refl

    resolve_issue : (x : ℤ) (z : Message × SecuredState) → resolving s x ≡ Ok z → Forth z
    unfolding Forth
    resolve_issue x z e = passed Forth (is_disputed s.day.state) _ refused.State z e (λ t.
        let m = Resolve s.day.number x (due_amount (holds.terms_of s) x s.before) in
        record {
          terms = h.terms;
          lots = none_forth s p xs ys m (λ k. refl) h.lots;
          days = notice_issue s.day p.day xs ys m (disputed_waits s.day.state t) (and_from (is_disputed s.day.state) (eqb s.day.number s.day.number) t same_day) h.days;
          kept = resolve_kept s h.size h.kept x t;
          size = h.size;
          ranged = h.ranged;
        })

    confirm_issue : (z : Message × SecuredState) → confirming s ≡ Ok z → Forth z
    unfolding Forth
    confirm_issue z e = behind Forth (is_closing s.day.state) _ refused.State z e (λ c q.
        passed Forth (is_released s.day.state || leb s.day.amount s.delivered) _ refused.BelowAmount z q (λ t.
        let m = Satisfied s.day.number in
        record {
          terms = h.terms;
          lots = none_forth s p xs ys m (λ k. refl) h.lots;
          days = notice_issue s.day p.day xs ys m (closing_waits s.day.state c) (and_from (is_closing s.day.state) (eqb s.day.number s.day.number) c same_day) h.days;
          kept = confirm_kept s h.size h.kept c t;
          size = h.size;
          ranged = h.ranged;
        }))

    reply_to : (l : ℕ) → l < 32 → (a : SecuredLot) → holds.lot_at s l ≡ a → (z : Message × SecuredState) → replying s l a ≡ Ok z → Forth z
    unfolding Forth
    reply_to l i Absent q z e = refuses Forth refused.Lot z e
    reply_to l i (Held v) q z e = refuses Forth refused.Lot z e
    reply_to l i (OwedBack v) q z e = gives Forth (Return l, secured_calls.with_lot s l Absent) z e (record {
      terms = h.terms;
      lots = return_issue s p xs ys l (omega (arith, h.size)) h.lots v q;
      days = reply_issue s.day p.day xs ys (Return l) refl h.days;
      kept = reply_kept s h.size h.kept l Absent i (ap (adds_now s) q);
      size = length-set s.lots l Absent ∙ h.size;
      ranged = h.ranged;
    })
    reply_to l i (DeclineOwed v) q z e = gives Forth (Decline l, secured_calls.with_lot s l (Held v)) z e (record {
      terms = h.terms;
      lots = decline_issue s p xs ys l (omega (arith, h.size)) h.lots v q;
      days = reply_issue s.day p.day xs ys (Decline l) refl h.days;
      kept = reply_kept s h.size h.kept l (Held v) i (ap (adds_now s) q);
      size = length-set s.lots l (Held v) ∙ h.size;
      ranged = h.ranged;
    })

    -- every call of the secured end that issues a message
    pub secured_issues : (c : SecuredCall) (m : Message) (t : SecuredState) → secured_calls.drafts s c ≡ Ok (m, t) → Accord t p (xs ++ (m ∷ [])) ys
    unfolding Forth
    secured_issues (notify f r) m t e = notify_issue f r (weighs s r) refl (m, t) e
    secured_issues (resolve x) m t e = behind Forth (resolve_fits x) (resolving s (exposure_or x s.exposure)) refused.Row (m, t) e (λ _ q. resolve_issue (exposure_or x s.exposure) (m, t) q)
    secured_issues confirm m t e = confirm_issue (m, t) e
    secured_issues (reply l) m t e = behind Forth (ltb l 32) (replying s l (holds.lot_at s l)) refused.Lot (m, t) e (λ i q. reply_to l (ltb-true l 32 i) (holds.lot_at s l) refl (m, t) q)

  -- what a call of the pledgor leaves, where its book is in range
  Back : Message × PledgorState → Type 0
  Back z = Ranged z.1 → Accord s z.1 xs (ys ++ (z.0 ∷ []))

  module _ (h : Accord s p xs ys) where
    -- an answer
    answer_back : (m : Message) (x : DayState) → ((k : ℕ) → about k m ≡ []) → waits p.day.state ≡ true → answer_fits p.day m ≡ true → answered p.day m ≡ day_in p.day x → Back (m, pledgor_calls.with_day p x)
    unfolding Back
    answer_back m x n w t e = λ r. record {
      terms = h.terms;
      lots = none_back s p xs ys m n h.lots;
      days = subst (λ d. Days s.day d xs (ys ++ (m ∷ []))) e (answer_issue s.day p.day xs ys m w t h.days);
      kept = h.kept;
      size = h.size;
      ranged = r;
    }

    own_day : eqb p.day.number p.day.number ≡ true
    own_day = eq-eqb p.day.number p.day.number refl

    answer_of_lem : is_called p.day.state ≡ true → (own : ℕ) → Back (answer_of p own)
    answer_of_lem c own = go (leb p.day.amount own) refl where
      n : ℕ
      n = p.day.number

      go : (b : Bool) → leb p.day.amount own ≡ b → Back (cond b (Agree p.day.number, pledgor_calls.with_day p day.Agreed) (Dispute p.day.number own, pledgor_calls.with_day p day.Disputed))
      go true q = answer_back (Agree n) day.Agreed (λ k. refl) (called_waits p.day.state c) (and_from (is_called p.day.state) (eqb n n) c own_day) refl
      go false q = answer_back (Dispute n own) day.Disputed (λ k. refl) (called_waits p.day.state c)
          (and_from (is_called p.day.state) (eqb n n && ltb own p.day.amount) c (and_from (eqb n n) (ltb own p.day.amount) own_day (lt-ltb own p.day.amount (leb-false p.day.amount own q)))) refl

    answer_to : (r : Row) (o : Result ℤ Refusal) (z : Message × PledgorState) → answering p r o ≡ Ok z → Back z
    answer_to r (Err x) z e = refuses Back x z e
    answer_to r (Ok x) z e = behind Back (eqb r.day p.day.number) _ refused.Row z e (λ _ q.
        passed Back (is_called p.day.state) _ refused.State z q (λ c. answer_of_lem c (due_amount (posts.terms_of p) x (posts.value_by p r))))

    -- a message about lots
    about_back : (m : Message) (ls : List PledgorLot) → Lots s (with_lots p ls) xs (ys ++ (m ∷ [])) → dated p.day.number m ≡ true → Back (m, with_lots p ls)
    unfolding Back
    about_back m ls g t = λ r. record {
      terms = h.terms;
      lots = g;
      days = lots_issue s.day p.day xs ys m t h.days;
      kept = h.kept;
      size = h.size;
      ranged = r;
    }

    today : leb p.day.number p.day.number ≡ true
    today = le-leb p.day.number p.day.number (omega arith)

    inside : (l : ℕ) → l < p.count → l < length p.lots
    inside l i = omega (arith, h.ranged.0, h.ranged.1)

    at_home : (l : ℕ) → home_at p l ≡ true → (l < p.count) × (is_home (posts.lot_at p l).place ≡ true)
    at_home l u = let r = and_parts (ltb l p.count) (is_home (posts.lot_at p l).place) u in (ltb-true l p.count r.0, r.1)

    at_posted : (l : ℕ) → posted_at p l ≡ true → (l < p.count) × (is_posted (posts.lot_at p l).place ≡ true)
    at_posted l u = let r = and_parts (ltb l p.count) (is_posted (posts.lot_at p l).place) u in (ltb-true l p.count r.0, r.1)

    gives_back : (c : PledgorCall) (m : Message) (t : PledgorState) → pledgor_calls.drafts p c ≡ Ok (m, t) → Back (m, t)
    gives_back (answer r) m t e = answer_to r (checked_row r) (m, t) e
    gives_back (deliver l) m t e = behind Back (home_at p l) _ refused.Lot (m, t) e (λ u q. passed Back (is_open p.day.state) _ refused.State (m, t) q (λ _.
        let r = at_home l u in
        about_back (pledgor_calls.delivery p l) (pledgor_calls.with_lot p l Posted).lots (deliver_issue s p xs ys h.lots l (inside l r.0) r.1) today))
    gives_back (substitute l o) m t e = passed Back (home_at p l && posted_at p o) _ refused.Lot (m, t) e (λ u.
        let q = and_parts (home_at p l) (posted_at p o) u in
        let r = at_home l q.0 in
        let v = at_posted o q.1 in
        about_back (pledgor_calls.substitution p l o) (pledgor_calls.with_lot (pledgor_calls.with_lot p l Posted) o Asked).lots (substitute_issue s p xs ys h.lots l o (inside l r.0) r.1 (inside o v.0) v.1) refl)
    gives_back (ask l) m t e = behind Back (posted_at p l) _ refused.Lot (m, t) e (λ u q. passed Back (is_offered p.day.state) _ refused.State (m, t) q (λ _.
        let r = at_posted l u in
        about_back (Ask p.day.number l) (pledgor_calls.with_lot p l Asked).lots (ask_issue s p xs ys h.lots p.day.number l (inside l r.0) r.1) today))
    gives_back release m t e = passed Back (is_offered p.day.state) _ refused.State (m, t) e (λ u.
        answer_back (Release p.day.number) day.Released (λ k. refl) (offered_waits p.day.state u) (and_from (is_offered p.day.state) (eqb p.day.number p.day.number) u own_day) refl)

    -- every call of the pledgor that issues a message
    pub pledgor_issues : (c : PledgorCall) (m : Message) (t : PledgorState) → pledgor_calls.drafts p c ≡ Ok (m, t) → Accord s t xs (ys ++ (m ∷ []))
    unfolding Back
    pledgor_issues c m t e = gives_back c m t e (drafted_ranged p h.ranged c m t e)
