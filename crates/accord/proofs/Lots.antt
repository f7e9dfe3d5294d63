-- The lots of the two books, and what is under way about each.
use Rattle.std.proofs.Common.{◌≡◌, ℕ, ◌<◌, Bool, true, false, ◌&&◌, eqb, ltb, List, [], ◌∷◌, ◌++◌, length, get_or, set, sym, refl, ap, ◌∙◌, subst, ⊎_elim, append-nil, arith, length-set, get_or-set_other}
use Rattle.std.proofs.lemmas.Bool.{eqb-true, eqb-false, ltb-true, lt-ltb, and_parts, and_from, cases_lt, eq-eqb}
use borrow.Author.Tests.{clash}
use Rattle.amounts.specs.declared.lots.Lot.{Lot}
use Rattle.amounts.specs.declared.lots.Place.{Place}
use Rattle.amounts.specs.declared.lots.Place.TheVariants.{Home, Posted, Asked}
use Rattle.amounts.specs.declared.lots.PledgorLot.{PledgorLot}
use Rattle.amounts.specs.declared.lots.SecuredLot.{SecuredLot}
use Rattle.amounts.specs.declared.lots.SecuredLot.TheVariants.{Absent, Held, OwedBack, DeclineOwed}
use Rattle.amounts.specs.Lots.{lot_fits}
use Rattle.message.specs.declared.Message.{Message}
use Rattle.message.specs.declared.Message.TheVariants.{Quiet, Call, Offer, Agree, Dispute, Resolve, Delivery, Substitute, Ask, Return, Decline, Satisfied, Release}
use Rattle.secured.specs.declared.state.SecuredState.{SecuredState}
use Rattle.secured.specs.Bookings as secured
use Rattle.secured.specs.Bookings.{lot_of, new_fits, old_fits, owe}
use Rattle.secured.specs.Calls.{with_lot}
use Rattle.secured.specs.Lots.{is_absent, is_held}
use Rattle.secured.specs.Lots as holds
use Rattle.pledgor.specs.declared.state.PledgorState.{PledgorState}
use Rattle.pledgor.specs.Bookings as pledgor
use Rattle.pledgor.specs.Bookings.{asked_at}
use Rattle.pledgor.specs.Calls as calls
use Rattle.pledgor.specs.Lots.{is_home, is_posted, is_asked, no_lot, moved}
use Rattle.pledgor.specs.Lots as posts
use Rattle.pledgor.specs.Sound.{Ranged}
use Rattle.accord.specs.Standing.{Word, new, old, returned, declined, only, about, words, Standing, home, sent, held, sent_asked, asked, owed_back, decline_owed, back, refused}
use Rattle.accord.specs.Accord.{Lots}
use Rattle.accord.proofs.Words.{words_join, set_each}

home_is : (y : Place) → is_home y ≡ true → y ≡ Home
home_is Home e = refl
home_is Posted e = absurd (clash e)
home_is Asked e = absurd (clash e)

posted_is : (y : Place) → is_posted y ≡ true → y ≡ Posted
posted_is Home e = absurd (clash e)
posted_is Posted e = refl
posted_is Asked e = absurd (clash e)

-- one lot: what issuing does

issue_home : {us ds : List Word} {a : SecuredLot} {v : Lot} → Standing (record { place = Home; lot = v }) us a ds → Standing (record { place = Posted; lot = v }) (us ++ (new v ∷ [])) a ds
issue_home home = sent

issue_posted : {us ds : List Word} {a : SecuredLot} {v : Lot} → Standing (record { place = Posted; lot = v }) us a ds → Standing (record { place = Asked; lot = v }) (us ++ (old ∷ [])) a ds
issue_posted sent = sent_asked
issue_posted held = asked

issue_new : {us ds : List Word} {a : SecuredLot} (x : PledgorLot) → is_home x.place ≡ true → Standing x us a ds → Standing (moved x Posted) (us ++ (new x.lot ∷ [])) a ds
issue_new {us} {ds} {a} x e h = issue_home (subst (λ y. Standing (record { place = y; lot = x.lot }) us a ds) (home_is x.place e) h)

issue_old : {us ds : List Word} {a : SecuredLot} (x : PledgorLot) → is_posted x.place ≡ true → Standing x us a ds → Standing (moved x Asked) (us ++ (old ∷ [])) a ds
issue_old {us} {ds} {a} x e h = issue_posted (subst (λ y. Standing (record { place = y; lot = x.lot }) us a ds) (posted_is x.place e) h)

issue_return : {x : PledgorLot} {us ds : List Word} {v : Lot} → Standing x us (OwedBack v) ds → Standing x us Absent (ds ++ (returned ∷ []))
issue_return owed_back = back

issue_decline : {x : PledgorLot} {us ds : List Word} {v : Lot} → Standing x us (DeclineOwed v) ds → Standing x us (Held v) (ds ++ (declined ∷ []))
issue_decline decline_owed = refused

-- one lot: what booking does

book_new : {x : PledgorLot} {us ds : List Word} {a : SecuredLot} {v : Lot} → Standing x (new v ∷ us) a ds → Standing x us (Held v) ds
book_new sent = held
book_new sent_asked = asked

book_old : {x : PledgorLot} {us ds : List Word} {a : SecuredLot} (b : Bool) → Standing x (old ∷ us) a ds → Standing x us (owe b a) ds
book_old true asked = owed_back
book_old false asked = decline_owed

book_return : {x : PledgorLot} {us ds : List Word} {a : SecuredLot} → Standing x us a (returned ∷ ds) → Standing (moved x Home) us a ds
book_return back = home

book_decline : {x : PledgorLot} {us ds : List Word} {a : SecuredLot} → Standing x us a (declined ∷ ds) → Standing (moved x Posted) us a ds
book_decline refused = held

-- one lot: what fits

new_absent : {x : PledgorLot} {us ds : List Word} {a : SecuredLot} {v : Lot} → Standing x (new v ∷ us) a ds → is_absent a ≡ true
new_absent sent = refl
new_absent sent_asked = refl

new_is : {x : PledgorLot} {us ds : List Word} {a : SecuredLot} {v : Lot} → Standing x (new v ∷ us) a ds → x.lot ≡ v
new_is sent = refl
new_is sent_asked = refl

old_held : {x : PledgorLot} {us ds : List Word} {a : SecuredLot} → Standing x (old ∷ us) a ds → is_held a ≡ true
old_held asked = refl

old_last : {x : PledgorLot} {us ds : List Word} {a : SecuredLot} → Standing x (old ∷ us) a ds → us ≡ []
old_last asked = refl

back_asked : {x : PledgorLot} {us ds : List Word} {a : SecuredLot} {w : Word} → Standing x us a (w ∷ ds) → is_asked x.place ≡ true
back_asked back = refl
back_asked refused = refl

sent_away : {x : PledgorLot} {us ds : List Word} {a : SecuredLot} {w : Word} → Standing x (w ∷ us) a ds → is_home x.place ≡ false
sent_away sent = refl
sent_away sent_asked = refl
sent_away asked = refl

back_away : {x : PledgorLot} {us ds : List Word} {a : SecuredLot} {w : Word} → Standing x us a (w ∷ ds) → is_home x.place ≡ false
back_away back = refl
back_away refused = refl

cons_nil : {w : Word} {us : List Word} → (w ∷ us) ≡ [] → ⊥
cons_nil {w} {us} e = let z : length (w ∷ us) ≡ 0 = ap length e in omega arith

-- an old lot and a new one in one message are two lots
new_under : {x : PledgorLot} {us ds : List Word} {a : SecuredLot} {v : Lot} (b : Bool) → Standing x ((only b old ++ (new v ∷ [])) ++ us) a ds → Standing x (new v ∷ us) a ds
new_under true h = absurd (cons_nil (old_last h))
new_under false h = h

book_old_under : {x : PledgorLot} {us ds : List Word} {a : SecuredLot} (v : Lot) (b g : Bool) → Standing x (old ∷ (only b (new v) ++ us)) a ds → Standing x us (owe g a) ds
book_old_under v true g h = absurd (cons_nil (old_last h))
book_old_under v false g h = book_old g h

-- a lot that something is under way about is the pledgor's own
own_lot : (p : PledgorState) (k : ℕ) → Ranged p → is_home (posts.lot_at p k).place ≡ false → k < p.count
own_lot p k r e = ⊎_elim (λ h. h) (λ h. absurd (clash (sym e ∙ r.3 k h))) (cases_lt k p.count)

itself : (l : ℕ) → eqb l l ≡ true
itself l = eq-eqb l l refl

-- the same book with another table
abbrev pub with_lots : PledgorState → List PledgorLot → PledgorState
with_lots p ls = record { annex = p.annex; day = p.day; count = p.count; lots = ls }

module _ (s : SecuredState) (p : PledgorState) (xs ys : List Message) where
  -- booking at the secured end

  first_new : (n l c f : ℕ) → Lots s p xs (Delivery n l c f ∷ ys) → Standing (posts.lot_at p l) (new (lot_of c f) ∷ words l ys) (holds.lot_at s l) (words l xs)
  first_new n l c f h = subst (λ b. Standing (posts.lot_at p l) (only b (new (lot_of c f)) ++ words l ys) (holds.lot_at s l) (words l xs)) (itself l) (h l)

  first_asked : (n l : ℕ) → Lots s p xs (Ask n l ∷ ys) → Standing (posts.lot_at p l) (old ∷ words l ys) (holds.lot_at s l) (words l xs)
  first_asked n l h = subst (λ b. Standing (posts.lot_at p l) (only b old ++ words l ys) (holds.lot_at s l) (words l xs)) (itself l) (h l)

  first_substitute : (l c f o : ℕ) → Lots s p xs (Substitute l c f o ∷ ys) → Standing (posts.lot_at p l) (new (lot_of c f) ∷ words l ys) (holds.lot_at s l) (words l xs)
  first_substitute l c f o h =
      new_under (eqb o l) (subst (λ b. Standing (posts.lot_at p l) ((only (eqb o l) old ++ only b (new (lot_of c f))) ++ words l ys) (holds.lot_at s l) (words l xs)) (itself l) (h l))

  first_replaced : (l c f o : ℕ) → Lots s p xs (Substitute l c f o ∷ ys) → Standing (posts.lot_at p o) (old ∷ (only (eqb l o) (new (lot_of c f)) ++ words o ys)) (holds.lot_at s o) (words o xs)
  first_replaced l c f o h = subst (λ b. Standing (posts.lot_at p o) ((only b old ++ only (eqb l o) (new (lot_of c f))) ++ words o ys) (holds.lot_at s o) (words o xs)) (itself o) (h o)

  module _ (r : Ranged p) where
    in_table : (k : ℕ) → is_home (posts.lot_at p k).place ≡ false → ltb k 32 ≡ true
    in_table k e = lt-ltb k 32 (omega (arith, own_lot p k r e, r.0))

    new_fit : (k : ℕ) {v : Lot} {us : List Word} → Standing (posts.lot_at p k) (new v ∷ us) (holds.lot_at s k) (words k xs) → new_fits s k v ≡ true
    new_fit k {v} g =
        and_from (ltb k 32) (lot_fits v && is_absent (holds.lot_at s k)) (in_table k (sent_away g))
        (and_from (lot_fits v) (is_absent (holds.lot_at s k)) (subst (λ x. lot_fits x ≡ true) (new_is g) (r.2 k (own_lot p k r (sent_away g)))) (new_absent g))

    old_fit : (k : ℕ) {us : List Word} → Standing (posts.lot_at p k) (old ∷ us) (holds.lot_at s k) (words k xs) → old_fits s k ≡ true
    old_fit k g = and_from (ltb k 32) (is_held (holds.lot_at s k)) (in_table k (sent_away g)) (old_held g)

    -- what the secured end is to book next fits its lots
    pub secured_fit : (m : Message) → secured.answer_fits s.day m ≡ true → Lots s p xs (m ∷ ys) → secured.lots_fit s m ≡ true
    secured_fit (Quiet n e) t h = t
    secured_fit (Call n e a) t h = t
    secured_fit (Offer n e a) t h = t
    secured_fit (Agree n) t h = refl
    secured_fit (Dispute n a) t h = refl
    secured_fit (Resolve n e a) t h = t
    secured_fit (Delivery n l c f) t h = new_fit l (first_new n l c f h)
    secured_fit (Substitute l c f o) t h = and_from (new_fits s l (lot_of c f)) (old_fits s o) (new_fit l (first_substitute l c f o h)) (old_fit o (first_replaced l c f o h))
    secured_fit (Ask n l) t h = old_fit l (first_asked n l h)
    secured_fit (Return l) t h = t
    secured_fit (Decline l) t h = t
    secured_fit (Satisfied n) t h = t
    secured_fit (Release n) t h = refl

  -- what booking does, seen from a lot
  Booked : ℕ → SecuredLot → List Word → Type 0
  Booked k a ws = Standing (posts.lot_at p k) (ws ++ words k ys) (holds.lot_at s k) (words k xs) → Standing (posts.lot_at p k) (words k ys) a (words k xs)

  module _ (size : length s.lots ≡ 32) where
    within : (l : ℕ) (b : Bool) → (ltb l 32 && b) ≡ true → l < length s.lots
    within l b e = omega (arith, size, ltb-true l 32 (and_parts (ltb l 32) b e).0)

    pub secured_book : (m : Message) → secured.lots_fit s m ≡ true → Lots s p xs (m ∷ ys) → Lots (secured.books s m) p xs ys
    unfolding Booked
    secured_book (Quiet n e) t h = h
    secured_book (Call n e a) t h = h
    secured_book (Offer n e a) t h = h
    secured_book (Agree n) t h = h
    secured_book (Dispute n a) t h = h
    secured_book (Resolve n e a) t h = h
    secured_book (Delivery n l c f) t h =
        λ k. set_each Booked s.lots Absent l (Held (lot_of c f)) (new (lot_of c f)) (within l (lot_fits (lot_of c f) && is_absent (holds.lot_at s l)) t) (λ g. book_new g) (λ j g. g) k (h k)
    secured_book (Substitute l c f o) t h =
        let v = lot_of c f in
        let fit = and_parts (new_fits s l v) (old_fits s o) t in
        let inner = set_each Booked s.lots Absent l (Held v) (new v) (within l (lot_fits v && is_absent (holds.lot_at s l)) fit.0) (λ g. book_new g) (λ j g. g) in
        λ k. set_each (λ j a vs. Booked j a (vs ++ only (eqb l j) (new v))) (set s.lots l (Held v)) Absent o (owe (secured.replaces s v o) (holds.lot_at s o)) old
        (omega (arith, length-set s.lots l (Held v), within o (is_held (holds.lot_at s o)) fit.1)) (λ g. book_old_under v (eqb l o) (secured.replaces s v o) g) inner k (h k)
    secured_book (Ask n l) t h =
        λ k. set_each Booked s.lots Absent l (owe (secured.frees s n l) (holds.lot_at s l)) old (within l (is_held (holds.lot_at s l)) t) (λ g. book_old (secured.frees s n l) g) (λ j g. g) k (h k)
    secured_book (Return l) t h = absurd (clash t)
    secured_book (Decline l) t h = absurd (clash t)
    secured_book (Satisfied n) t h = h
    secured_book (Release n) t h = h

  -- booking at the pledgor

  first_back : (l : ℕ) → Lots s p (Return l ∷ xs) ys → Standing (posts.lot_at p l) (words l ys) (holds.lot_at s l) (returned ∷ words l xs)
  first_back l h = subst (λ b. Standing (posts.lot_at p l) (words l ys) (holds.lot_at s l) (only b returned ++ words l xs)) (itself l) (h l)

  first_refused : (l : ℕ) → Lots s p (Decline l ∷ xs) ys → Standing (posts.lot_at p l) (words l ys) (holds.lot_at s l) (declined ∷ words l xs)
  first_refused l h = subst (λ b. Standing (posts.lot_at p l) (words l ys) (holds.lot_at s l) (only b declined ++ words l xs)) (itself l) (h l)

  Told : ℕ → PledgorLot → List Word → Type 0
  Told k x ws = Standing (posts.lot_at p k) (words k ys) (holds.lot_at s k) (ws ++ words k xs) → Standing x (words k ys) (holds.lot_at s k) (words k xs)

  module _ (r : Ranged p) where
    back_fit : (k : ℕ) {w : Word} {ds : List Word} → Standing (posts.lot_at p k) (words k ys) (holds.lot_at s k) (w ∷ ds) → asked_at p k ≡ true
    back_fit k g = and_from (ltb k 32) (is_asked (posts.lot_at p k).place) (in_table r k (back_away g)) (back_asked g)

    -- what the pledgor is to book next fits its lots
    pub pledgor_fit : (m : Message) → pledgor.notice_fits p.day m ≡ true → Lots s p (m ∷ xs) ys → pledgor.lots_fit p m ≡ true
    pledgor_fit (Quiet n e) t h = refl
    pledgor_fit (Call n e a) t h = refl
    pledgor_fit (Offer n e a) t h = refl
    pledgor_fit (Agree n) t h = t
    pledgor_fit (Dispute n a) t h = t
    pledgor_fit (Resolve n e a) t h = refl
    pledgor_fit (Delivery n l c f) t h = t
    pledgor_fit (Substitute l c f o) t h = t
    pledgor_fit (Ask n l) t h = t
    pledgor_fit (Return l) t h = back_fit l (first_back l h)
    pledgor_fit (Decline l) t h = back_fit l (first_refused l h)
    pledgor_fit (Satisfied n) t h = refl
    pledgor_fit (Release n) t h = t

    inside : (l : ℕ) (b : Bool) → (ltb l 32 && b) ≡ true → l < length p.lots
    inside l b e = omega (arith, r.1, ltb-true l 32 (and_parts (ltb l 32) b e).0)

    pub pledgor_book : (m : Message) → pledgor.lots_fit p m ≡ true → Lots s p (m ∷ xs) ys → Lots s (pledgor.books p m) xs ys
    unfolding Told
    pledgor_book (Quiet n e) t h = h
    pledgor_book (Call n e a) t h = h
    pledgor_book (Offer n e a) t h = h
    pledgor_book (Agree n) t h = h
    pledgor_book (Dispute n a) t h = h
    pledgor_book (Resolve n e a) t h = h
    pledgor_book (Delivery n l c f) t h = absurd (clash t)
    pledgor_book (Substitute l c f o) t h = absurd (clash t)
    pledgor_book (Ask n l) t h = absurd (clash t)
    pledgor_book (Return l) t h =
        λ k. set_each Told p.lots no_lot l (moved (posts.lot_at p l) Home) returned (inside l (is_asked (posts.lot_at p l).place) t) (λ g. book_return g) (λ j g. g) k (h k)
    pledgor_book (Decline l) t h =
        λ k. set_each Told p.lots no_lot l (moved (posts.lot_at p l) Posted) declined (inside l (is_asked (posts.lot_at p l).place) t) (λ g. book_decline g) (λ j g. g) k (h k)
    pledgor_book (Satisfied n) t h = h
    pledgor_book (Release n) t h = h

  -- issuing

  -- a message that says nothing about lots joins a queue
  pub none_forth : (m : Message) → ((k : ℕ) → about k m ≡ []) → Lots s p xs ys → Lots s p (xs ++ (m ∷ [])) ys
  none_forth m e h k = subst (λ z. Standing (posts.lot_at p k) (words k ys) (holds.lot_at s k) z) (sym (words_join k xs m ∙ ap (λ z. words k xs ++ z) (e k) ∙ append-nil (words k xs))) (h k)

  pub none_back : (m : Message) → ((k : ℕ) → about k m ≡ []) → Lots s p xs ys → Lots s p xs (ys ++ (m ∷ []))
  none_back m e h k = subst (λ z. Standing (posts.lot_at p k) z (holds.lot_at s k) (words k xs)) (sym (words_join k ys m ∙ ap (λ z. words k ys ++ z) (e k) ∙ append-nil (words k ys))) (h k)

  Replied : ℕ → SecuredLot → List Word → Type 0
  Replied k a ws = Standing (posts.lot_at p k) (words k ys) a (words k xs ++ ws)

  module _ (l : ℕ) (inside : l < length s.lots) (h : Lots s p xs ys) where
    replied : (a : SecuredLot) (m : Message) (w : Word) → ((k : ℕ) → about k m ≡ only (eqb l k) w) → Standing (posts.lot_at p l) (words l ys) a (words l xs ++ (w ∷ [])) → Lots (with_lot s l a) p (xs ++ (m ∷ [])) ys
    unfolding Replied
    replied a m w e g k =
        subst (λ z. Standing (posts.lot_at p k) (words k ys) (get_or (set s.lots l a) k Absent) z) (sym (words_join k xs m ∙ ap (λ z. words k xs ++ z) (e k)))
        (set_each Replied s.lots Absent l a w inside g (λ j. subst (λ z. Standing (posts.lot_at p j) (words j ys) (holds.lot_at s j) z) (sym (append-nil (words j xs))) (h j)) k)

    pub return_issue : (v : Lot) → holds.lot_at s l ≡ OwedBack v → Lots (with_lot s l Absent) p (xs ++ (Return l ∷ [])) ys
    return_issue v e = replied Absent (Return l) returned (λ k. refl) (issue_return (subst (λ a. Standing (posts.lot_at p l) (words l ys) a (words l xs)) e (h l)))

    pub decline_issue : (v : Lot) → holds.lot_at s l ≡ DeclineOwed v → Lots (with_lot s l (Held v)) p (xs ++ (Decline l ∷ [])) ys
    decline_issue v e = replied (Held v) (Decline l) declined (λ k. refl) (issue_decline (subst (λ a. Standing (posts.lot_at p l) (words l ys) a (words l xs)) e (h l)))

  Sent : ℕ → PledgorLot → List Word → Type 0
  Sent k x ws = Standing x (words k ys ++ ws) (holds.lot_at s k) (words k xs)

  module _ (h : Lots s p xs ys) where
    unsent : (j : ℕ) → Sent j (posts.lot_at p j) []
    unfolding Sent
    unsent j = subst (λ z. Standing (posts.lot_at p j) z (holds.lot_at s j) (words j xs)) (sym (append-nil (words j ys))) (h j)

    joined : (ls : List PledgorLot) (m : Message) → ((k : ℕ) → Sent k (get_or ls k no_lot) (about k m)) → Lots s (with_lots p ls) xs (ys ++ (m ∷ []))
    unfolding Sent
    joined ls m g k = subst (λ z. Standing (get_or ls k no_lot) z (holds.lot_at s k) (words k xs)) (sym (words_join k ys m)) (g k)

    pub deliver_issue : (l : ℕ) → l < length p.lots → is_home (posts.lot_at p l).place ≡ true → Lots s (calls.with_lot p l Posted) xs (ys ++ (calls.delivery p l ∷ []))
    unfolding Sent
    deliver_issue l i e =
        let x = posts.lot_at p l in
        joined (set p.lots l (moved x Posted)) (calls.delivery p l) (set_each Sent p.lots no_lot l (moved x Posted) (new x.lot) i (issue_new x e (h l)) unsent)

    pub ask_issue : (n l : ℕ) → l < length p.lots → is_posted (posts.lot_at p l).place ≡ true → Lots s (calls.with_lot p l Asked) xs (ys ++ (Ask n l ∷ []))
    unfolding Sent
    ask_issue n l i e =
        let x = posts.lot_at p l in
        joined (set p.lots l (moved x Asked)) (Ask n l) (set_each Sent p.lots no_lot l (moved x Asked) old i (issue_old x e (h l)) unsent)

    apart : (l o : ℕ) → is_home (posts.lot_at p l).place ≡ true → is_posted (posts.lot_at p o).place ≡ true → (b : Bool) → eqb l o ≡ b → b ≡ false
    apart l o e g true q = absurd (clash (sym (ap (λ k. is_home (posts.lot_at p k).place) (eqb-true l o q) ∙ ap is_home (posted_is (posts.lot_at p o).place g)) ∙ e))
    apart l o e g false q = refl

    pub substitute_issue : (l o : ℕ) → l < length p.lots → is_home (posts.lot_at p l).place ≡ true → o < length p.lots → is_posted (posts.lot_at p o).place ≡ true →
        Lots s (calls.with_lot (calls.with_lot p l Posted) o Asked) xs (ys ++ (calls.substitution p l o ∷ []))
    unfolding Sent
    substitute_issue l o i e j g =
        let x = posts.lot_at p l in
        let q = calls.with_lot p l Posted in
        let two = apart l o e g (eqb l o) refl in
        let same = get_or-set_other p.lots l o (moved x Posted) no_lot (λ z. eqb-false l o two (sym z)) in
        let inner = set_each Sent p.lots no_lot l (moved x Posted) (new x.lot) i (issue_new x e (h l)) unsent in
        joined (set q.lots o (moved (posts.lot_at q o) Asked)) (calls.substitution p l o)
        (set_each (λ k y vs. Sent k y (vs ++ only (eqb l k) (new x.lot))) q.lots no_lot o (moved (posts.lot_at q o) Asked) old (omega (arith, length-set p.lots l (moved x Posted)))
        (subst (λ b. Standing (moved (posts.lot_at q o) Asked) (words o ys ++ ((old ∷ []) ++ only b (new x.lot))) (holds.lot_at s o) (words o xs)) (sym two)
        (subst (λ y. Standing (moved y Asked) (words o ys ++ (old ∷ [])) (holds.lot_at s o) (words o xs)) (sym same) (issue_old (posts.lot_at p o) g (h o))))
        inner)
