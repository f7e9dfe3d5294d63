-- The days of the two books, and the notices and answers under way.
use Rattle.std.proofs.Common.{◌≡◌, ℕ, ◌≤◌, Bool, true, false, ◌&&◌, eqb, ltb, ◌⊎◌, List, [], ◌∷◌, ◌++◌, sym, refl, ap, ◌∙◌, subst, inl, inr, ⊎_elim, arith}
use Rattle.std.proofs.lemmas.Bool.{ltb-true, leb-true, le-leb, and_parts}
use borrow.Author.Tests.{clash}
use Rattle.day.specs.declared.Day.{Day}
use Rattle.day.specs.declared.DayState.{DayState}
use Rattle.day.specs.declared.DayState.TheVariants as day
use Rattle.message.specs.declared.Message.{Message}
use Rattle.message.specs.declared.Message.TheVariants.{Quiet, Call, Offer, Agree, Dispute, Resolve, Delivery, Substitute, Ask, Return, Decline, Satisfied, Release}
use Rattle.day.specs.Days.{is_called, is_offered, is_disputed, is_ended, is_closing, is_settled}
use Rattle.secured.specs.Bookings.{answer_fits, answered}
use Rattle.pledgor.specs.Bookings.{notice_fits, told}
use Rattle.accord.specs.Accord.{Follows, Each, dated, is_reply, Days}

-- the secured end waits for an answer: the pledgor's next word ends it
abbrev pub waits : DayState → Bool
waits day.Unset = false
waits day.Quiet = false
waits day.Called = true
waits day.Agreed = false
waits day.Disputed = false
waits day.Resolved = false
waits day.Offered = true
waits day.Released = false
waits day.Satisfied = false

pub ended_waits : (x : DayState) → is_ended x ≡ true → waits x ≡ false
ended_waits day.Unset e = refl
ended_waits day.Quiet e = refl
ended_waits day.Called e = sym e
ended_waits day.Agreed e = refl
ended_waits day.Disputed e = refl
ended_waits day.Resolved e = refl
ended_waits day.Offered e = sym e
ended_waits day.Released e = refl
ended_waits day.Satisfied e = refl

pub disputed_waits : (x : DayState) → is_disputed x ≡ true → waits x ≡ false
disputed_waits day.Unset e = refl
disputed_waits day.Quiet e = refl
disputed_waits day.Called e = sym e
disputed_waits day.Agreed e = refl
disputed_waits day.Disputed e = refl
disputed_waits day.Resolved e = refl
disputed_waits day.Offered e = sym e
disputed_waits day.Released e = refl
disputed_waits day.Satisfied e = refl

pub closing_waits : (x : DayState) → is_closing x ≡ true → waits x ≡ false
closing_waits day.Unset e = refl
closing_waits day.Quiet e = refl
closing_waits day.Called e = sym e
closing_waits day.Agreed e = refl
closing_waits day.Disputed e = refl
closing_waits day.Resolved e = refl
closing_waits day.Offered e = sym e
closing_waits day.Released e = refl
closing_waits day.Satisfied e = refl

pub called_waits : (x : DayState) → is_called x ≡ true → waits x ≡ true
called_waits day.Unset e = e
called_waits day.Quiet e = e
called_waits day.Called e = refl
called_waits day.Agreed e = e
called_waits day.Disputed e = e
called_waits day.Resolved e = e
called_waits day.Offered e = refl
called_waits day.Released e = e
called_waits day.Satisfied e = e

pub offered_waits : (x : DayState) → is_offered x ≡ true → waits x ≡ true
offered_waits day.Unset e = e
offered_waits day.Quiet e = e
offered_waits day.Called e = refl
offered_waits day.Agreed e = e
offered_waits day.Disputed e = e
offered_waits day.Resolved e = e
offered_waits day.Offered e = refl
offered_waits day.Released e = e
offered_waits day.Satisfied e = e

front : (a b : Bool) → (a && b) ≡ true → a ≡ true
front a b e = (and_parts a b e).0

-- a notice fits only a day that waits for no answer, an answer only one that does
notice_waits : (d : Day) (m : Message) → notice_fits d m ≡ true → (is_reply m ≡ true) ⊎ (waits d.state ≡ false)
notice_waits d (Quiet n e) t = inr (ended_waits d.state (front (is_ended d.state) (ltb d.number n) t))
notice_waits d (Call n e a) t = inr (ended_waits d.state (front (is_ended d.state) (ltb d.number n) t))
notice_waits d (Offer n e a) t = inr (ended_waits d.state (front (is_ended d.state) (ltb d.number n) t))
notice_waits d (Agree n) t = absurd (clash t)
notice_waits d (Dispute n a) t = absurd (clash t)
notice_waits d (Resolve n e a) t = inr (disputed_waits d.state (front (is_disputed d.state) (eqb n d.number) t))
notice_waits d (Delivery n l c f) t = absurd (clash t)
notice_waits d (Substitute l c f o) t = absurd (clash t)
notice_waits d (Ask n l) t = absurd (clash t)
notice_waits d (Return l) t = inl refl
notice_waits d (Decline l) t = inl refl
notice_waits d (Satisfied n) t = inr (closing_waits d.state (front (is_closing d.state) (eqb n d.number) t))
notice_waits d (Release n) t = absurd (clash t)

answer_waits : (d : Day) (m : Message) → answer_fits d m ≡ true → (dated d.number m ≡ true) ⊎ (waits d.state ≡ true)
answer_waits d (Quiet n e) t = absurd (clash t)
answer_waits d (Call n e a) t = absurd (clash t)
answer_waits d (Offer n e a) t = absurd (clash t)
answer_waits d (Agree n) t = inr (called_waits d.state (front (is_called d.state) (eqb n d.number) t))
answer_waits d (Dispute n a) t = inr (called_waits d.state (front (is_called d.state) (eqb n d.number && ltb a d.amount) t))
answer_waits d (Resolve n e a) t = absurd (clash t)
answer_waits d (Delivery n l c f) t = inl t
answer_waits d (Substitute l c f o) t = inl refl
answer_waits d (Ask n l) t = inl t
answer_waits d (Return l) t = absurd (clash t)
answer_waits d (Decline l) t = absurd (clash t)
answer_waits d (Satisfied n) t = absurd (clash t)
answer_waits d (Release n) t = inr (offered_waits d.state (front (is_offered d.state) (eqb n d.number) t))

-- a message about lots alone leaves the day
dated_fits : (d : Day) (m : Message) → dated d.number m ≡ true → (answer_fits d m ≡ true) × (answered d m ≡ d)
dated_fits d (Quiet n e) t = absurd (clash t)
dated_fits d (Call n e a) t = absurd (clash t)
dated_fits d (Offer n e a) t = absurd (clash t)
dated_fits d (Agree n) t = absurd (clash t)
dated_fits d (Dispute n a) t = absurd (clash t)
dated_fits d (Resolve n e a) t = absurd (clash t)
dated_fits d (Delivery n l c f) t = (t, refl)
dated_fits d (Substitute l c f o) t = (refl, refl)
dated_fits d (Ask n l) t = (t, refl)
dated_fits d (Return l) t = absurd (clash t)
dated_fits d (Decline l) t = absurd (clash t)
dated_fits d (Satisfied n) t = absurd (clash t)
dated_fits d (Release n) t = absurd (clash t)

reply_fits : (d : Day) (m : Message) → is_reply m ≡ true → (notice_fits d m ≡ true) × (told d m ≡ d)
reply_fits d (Quiet n e) t = absurd (clash t)
reply_fits d (Call n e a) t = absurd (clash t)
reply_fits d (Offer n e a) t = absurd (clash t)
reply_fits d (Agree n) t = absurd (clash t)
reply_fits d (Dispute n a) t = absurd (clash t)
reply_fits d (Resolve n e a) t = absurd (clash t)
reply_fits d (Delivery n l c f) t = absurd (clash t)
reply_fits d (Substitute l c f o) t = absurd (clash t)
reply_fits d (Ask n l) t = absurd (clash t)
reply_fits d (Return l) t = (refl, refl)
reply_fits d (Decline l) t = (refl, refl)
reply_fits d (Satisfied n) t = absurd (clash t)
reply_fits d (Release n) t = absurd (clash t)

dated_later : (n k : ℕ) (m : Message) → n ≤ k → dated n m ≡ true → dated k m ≡ true
dated_later n k (Quiet d e) h t = t
dated_later n k (Call d e a) h t = t
dated_later n k (Offer d e a) h t = t
dated_later n k (Agree d) h t = t
dated_later n k (Dispute d a) h t = t
dated_later n k (Resolve d e a) h t = t
dated_later n k (Delivery d l c f) h t = le-leb d k (omega (arith, leb-true d n t))
dated_later n k (Substitute l c f o) h t = refl
dated_later n k (Ask d l) h t = le-leb d k (omega (arith, leb-true d n t))
dated_later n k (Return l) h t = t
dated_later n k (Decline l) h t = t
dated_later n k (Satisfied d) h t = t
dated_later n k (Release d) h t = t

-- booking a notice never goes back in days
told_later : (d : Day) (m : Message) → notice_fits d m ≡ true → d.number ≤ (told d m).number
told_later d (Quiet n e) t = let h = ltb-true d.number n (and_parts (is_ended d.state) (ltb d.number n) t).1 in omega arith
told_later d (Call n e a) t = let h = ltb-true d.number n (and_parts (is_ended d.state) (ltb d.number n) t).1 in omega arith
told_later d (Offer n e a) t = let h = ltb-true d.number n (and_parts (is_ended d.state) (ltb d.number n) t).1 in omega arith
told_later d (Agree n) t = omega arith
told_later d (Dispute n a) t = omega arith
told_later d (Resolve n e a) t = omega arith
told_later d (Delivery n l c f) t = omega arith
told_later d (Substitute l c f o) t = omega arith
told_later d (Ask n l) t = omega arith
told_later d (Return l) t = omega arith
told_later d (Decline l) t = omega arith
told_later d (Satisfied n) t = omega arith
told_later d (Release n) t = omega arith

-- queues

each_join : (test : Message → Bool) (xs : List Message) (m : Message) → Each test xs → test m ≡ true → Each test (xs ++ (m ∷ []))
each_join test [] m h t = (t, tt)
each_join test (x ∷ xs) m h t = (h.0, each_join test xs m h.1 t)

each_later : (n k : ℕ) (ms : List Message) → n ≤ k → Each (dated n) ms → Each (dated k) ms
each_later n k [] h e = tt
each_later n k (m ∷ ms) h e = (dated_later n k m h e.0, each_later n k ms h e.1)

follows_join : (fits : Day → Message → Bool) (books : Day → Message → Day) (xs : List Message) (m : Message) (d e : Day) → Follows fits books d xs e → fits e m ≡ true → Follows fits books d (xs ++ (m ∷ [])) (books e m)
follows_join fits books [] m d e h t = (ap (λ z. fits z m) h ∙ t, ap (λ z. books z m) h)
follows_join fits books (x ∷ xs) m d e h t = (h.0, follows_join fits books xs m (books d x) e h.1 t)

dated_follows : (d : Day) (ys : List Message) → Each (dated d.number) ys → Follows answer_fits answered d ys d
dated_follows d [] h = refl
dated_follows d (m ∷ ys) h = let f = dated_fits d m h.0 in (f.0, subst (λ z. Follows answer_fits answered z ys d) (sym f.1) (dated_follows d ys h.1))

replies_follow : (d : Day) (xs : List Message) → Each is_reply xs → Follows notice_fits told d xs d
replies_follow d [] h = refl
replies_follow d (m ∷ xs) h = let f = reply_fits d m h.0 in (f.0, subst (λ z. Follows notice_fits told z xs d) (sym f.1) (replies_follow d xs h.1))

-- no notice reaches a day that waits
notices_none : (d e : Day) (xs : List Message) → waits d.state ≡ true → Follows notice_fits told d xs e → Each is_reply xs × (d ≡ e)
notices_none d e [] w h = (tt, h)
notices_none d e (m ∷ xs) w h = ⊎_elim
    (λ r. let q = notices_none d e xs w (subst (λ z. Follows notice_fits told z xs e) (reply_fits d m r).1 h.1) in ((r, q.0), q.1))
    (λ r. absurd (clash (sym r ∙ w)))
    (notice_waits d m h.0)

-- no answer reaches a day that does not
answers_none : (d e : Day) (ys : List Message) → waits d.state ≡ false → Follows answer_fits answered d ys e → Each (dated d.number) ys × (d ≡ e)
answers_none d e [] w h = (tt, h)
answers_none d e (m ∷ ys) w h = ⊎_elim
    (λ r. let q = answers_none d e ys w (subst (λ z. Follows answer_fits answered z ys e) (dated_fits d m r).1 h.1) in ((r, q.0), q.1))
    (λ r. absurd (clash (sym w ∙ r)))
    (answer_waits d m h.0)

follows_later : (d e : Day) (xs : List Message) → Follows notice_fits told d xs e → d.number ≤ e.number
follows_later d e [] h = omega (arith, ap (λ (z : Day). z.number) h)
follows_later d e (m ∷ xs) h = omega (arith, told_later d m h.0, follows_later (told d m) e xs h.1)

-- issuing and booking

module _ (sd pd : Day) (xs ys : List Message) where
  Asking : Type 0
  Asking = Follows answer_fits answered sd ys pd × Each is_reply xs

  Telling : Type 0
  Telling = Follows notice_fits told pd xs sd × Each (dated sd.number) ys

  to_telling : waits sd.state ≡ false → Days sd pd xs ys → Telling
  unfolding Telling
  to_telling w (inl h) = h
  to_telling w (inr h) =
      let q = answers_none sd pd ys w h.0 in
      (subst (λ z. Follows notice_fits told z xs sd) q.1 (replies_follow sd xs h.1), q.0)

  to_asking : waits pd.state ≡ true → Days sd pd xs ys → Asking
  unfolding Asking
  to_asking w (inr h) = h
  to_asking w (inl h) =
      let q = notices_none pd sd xs w h.0 in
      (subst (λ z. Follows answer_fits answered sd ys z) (sym q.1) (dated_follows sd ys h.1), q.0)

  -- the secured end issues a notice
  pub notice_issue : (m : Message) → waits sd.state ≡ false → notice_fits sd m ≡ true → Days sd pd xs ys → Days (told sd m) pd (xs ++ (m ∷ [])) ys
  unfolding Telling
  notice_issue m w t h =
      let q = to_telling w h in
      inl (follows_join notice_fits told xs m pd sd q.0 t, each_later sd.number (told sd m).number ys (told_later sd m t) q.1)

  -- or a reply
  pub reply_issue : (m : Message) → is_reply m ≡ true → Days sd pd xs ys → Days sd pd (xs ++ (m ∷ [])) ys
  reply_issue m r (inl h) =
      let f = reply_fits sd m r in
      inl (subst (λ z. Follows notice_fits told pd (xs ++ (m ∷ [])) z) f.1 (follows_join notice_fits told xs m pd sd h.0 f.0), h.1)
  reply_issue m r (inr h) = inr (h.0, each_join is_reply xs m h.1 r)

  -- the pledgor issues an answer
  pub answer_issue : (m : Message) → waits pd.state ≡ true → answer_fits pd m ≡ true → Days sd pd xs ys → Days sd (answered pd m) xs (ys ++ (m ∷ []))
  unfolding Asking
  answer_issue m w t h =
      let q = to_asking w h in
      inr (follows_join answer_fits answered ys m sd pd q.0 t, q.1)

  -- or a message about lots
  pub lots_issue : (m : Message) → dated pd.number m ≡ true → Days sd pd xs ys → Days sd pd xs (ys ++ (m ∷ []))
  lots_issue m r (inl h) = inl (h.0, each_join (dated sd.number) ys m h.1 (dated_later pd.number sd.number m (follows_later pd sd xs h.0) r))
  lots_issue m r (inr h) =
      let f = dated_fits pd m r in
      inr (subst (λ z. Follows answer_fits answered sd (ys ++ (m ∷ [])) z) f.1 (follows_join answer_fits answered ys m sd pd h.0 f.0), h.1)

-- what is to be booked next fits the day
pub answer_fit : (sd pd : Day) (xs ys : List Message) (m : Message) → Days sd pd xs (m ∷ ys) → answer_fits sd m ≡ true
answer_fit sd pd xs ys m (inl h) = (dated_fits sd m h.1.0).0
answer_fit sd pd xs ys m (inr h) = h.0.0

pub notice_fit : (sd pd : Day) (xs ys : List Message) (m : Message) → Days sd pd (m ∷ xs) ys → notice_fits pd m ≡ true
notice_fit sd pd xs ys m (inl h) = h.0.0
notice_fit sd pd xs ys m (inr h) = (reply_fits pd m h.1.0).0

pub answer_book : (sd pd : Day) (xs ys : List Message) (m : Message) → Days sd pd xs (m ∷ ys) → Days (answered sd m) pd xs ys
answer_book sd pd xs ys m (inl h) = subst (λ z. Days z pd xs ys) (sym (dated_fits sd m h.1.0).1) (inl (h.0, h.1.1))
answer_book sd pd xs ys m (inr h) = inr (h.0.1, h.1)

pub notice_book : (sd pd : Day) (xs ys : List Message) (m : Message) → Days sd pd (m ∷ xs) ys → Days sd (told pd m) xs ys
notice_book sd pd xs ys m (inl h) = inl (h.0.1, h.1)
notice_book sd pd xs ys m (inr h) = subst (λ z. Days sd z xs ys) (sym (reply_fits pd m h.1.0).1) (inr (h.0, h.1.1))

-- the pledgor's latest day, settled there

settled_disputed : (x : DayState) → is_settled x ≡ true → is_disputed x ≡ true → ⊥
settled_disputed day.Unset e g = clash g
settled_disputed day.Quiet e g = clash g
settled_disputed day.Called e g = clash g
settled_disputed day.Agreed e g = clash g
settled_disputed day.Disputed e g = clash e
settled_disputed day.Resolved e g = clash g
settled_disputed day.Offered e g = clash g
settled_disputed day.Released e g = clash g
settled_disputed day.Satisfied e g = clash g

settled_closing : (x : DayState) → is_settled x ≡ true → is_closing x ≡ true → ⊥
settled_closing day.Unset e g = clash g
settled_closing day.Quiet e g = clash g
settled_closing day.Called e g = clash g
settled_closing day.Agreed e g = clash e
settled_closing day.Disputed e g = clash g
settled_closing day.Resolved e g = clash e
settled_closing day.Offered e g = clash g
settled_closing day.Released e g = clash e
settled_closing day.Satisfied e g = clash g

later : (d e : Day) (xs : List Message) (m : Message) (k : ℕ) → ltb d.number k ≡ true → (told d m).number ≡ k → d.number ≡ e.number → Follows notice_fits told (told d m) xs e → ⊥
later d e xs m k t q n h = omega (arith, ltb-true d.number k t, follows_later (told d m) e xs h)

settled_notices : (d e : Day) (xs : List Message) → is_settled d.state ≡ true → d.number ≡ e.number → Follows notice_fits told d xs e → d ≡ e
settled_notices d e [] t n h = h
settled_notices d e (Quiet k x ∷ xs) t n h = absurd (later d e xs (Quiet k x) k (and_parts (is_ended d.state) (ltb d.number k) h.0).1 refl n h.1)
settled_notices d e (Call k x a ∷ xs) t n h = absurd (later d e xs (Call k x a) k (and_parts (is_ended d.state) (ltb d.number k) h.0).1 refl n h.1)
settled_notices d e (Offer k x a ∷ xs) t n h = absurd (later d e xs (Offer k x a) k (and_parts (is_ended d.state) (ltb d.number k) h.0).1 refl n h.1)
settled_notices d e (Agree k ∷ xs) t n h = absurd (clash h.0)
settled_notices d e (Dispute k a ∷ xs) t n h = absurd (clash h.0)
settled_notices d e (Resolve k x a ∷ xs) t n h = absurd (settled_disputed d.state t (and_parts (is_disputed d.state) (eqb k d.number) h.0).0)
settled_notices d e (Delivery k l c f ∷ xs) t n h = absurd (clash h.0)
settled_notices d e (Substitute l c f o ∷ xs) t n h = absurd (clash h.0)
settled_notices d e (Ask k l ∷ xs) t n h = absurd (clash h.0)
settled_notices d e (Return l ∷ xs) t n h = settled_notices d e xs t n h.1
settled_notices d e (Decline l ∷ xs) t n h = settled_notices d e xs t n h.1
settled_notices d e (Satisfied k ∷ xs) t n h = absurd (settled_closing d.state t (and_parts (is_closing d.state) (eqb k d.number) h.0).0)
settled_notices d e (Release k ∷ xs) t n h = absurd (clash h.0)

settled_answers : (d e : Day) (ys : List Message) → is_settled e.state ≡ true → Follows answer_fits answered d ys e → is_settled d.state ≡ true
settled_answers d e [] t h = ap (λ (z : Day). is_settled z.state) h ∙ t
settled_answers d e (Quiet k x ∷ ys) t h = absurd (clash h.0)
settled_answers d e (Call k x a ∷ ys) t h = absurd (clash h.0)
settled_answers d e (Offer k x a ∷ ys) t h = absurd (clash h.0)
settled_answers d e (Agree k ∷ ys) t h = absurd (clash (settled_answers (answered d (Agree k)) e ys t h.1))
settled_answers d e (Dispute k a ∷ ys) t h = absurd (clash (settled_answers (answered d (Dispute k a)) e ys t h.1))
settled_answers d e (Resolve k x a ∷ ys) t h = absurd (clash h.0)
settled_answers d e (Delivery k l c f ∷ ys) t h = settled_answers d e ys t h.1
settled_answers d e (Substitute l c f o ∷ ys) t h = settled_answers d e ys t h.1
settled_answers d e (Ask k l ∷ ys) t h = settled_answers d e ys t h.1
settled_answers d e (Return l ∷ ys) t h = absurd (clash h.0)
settled_answers d e (Decline l ∷ ys) t h = absurd (clash h.0)
settled_answers d e (Satisfied k ∷ ys) t h = absurd (clash h.0)
settled_answers d e (Release k ∷ ys) t h = absurd (clash (settled_answers (answered d (Release k)) e ys t h.1))

pub settled_latest : (sd pd : Day) (xs ys : List Message) → Days sd pd xs ys → pd.number ≡ sd.number → is_settled pd.state ≡ true → is_settled sd.state ≡ true
settled_latest sd pd xs ys (inl h) n t = sym (ap (λ (z : Day). is_settled z.state) (settled_notices pd sd xs t n h.0)) ∙ t
settled_latest sd pd xs ys (inr h) n t = settled_answers sd pd ys t h.0
