-- Lots in only one position, and the messages about them.
use Rattle.std.proofs.Common.{◌≡◌, ℕ, Bool, true, false, ◌||◌, eqb, ◌⊎◌, List, [], ◌∷◌, ◌++◌, Some, None, Option, refl, ap, ◌∙◌, inl, inr, arith}
use Rattle.amounts.specs.declared.lots.Lot.{Lot}
use Rattle.amounts.specs.declared.lots.PledgorLot.{PledgorLot}
use Rattle.amounts.specs.declared.lots.SecuredLot.{SecuredLot}
use Rattle.message.specs.declared.Message.{Message}
use Rattle.message.specs.declared.Message.TheVariants.{Quiet, Call, Offer, Agree, Dispute, Resolve, Delivery, Substitute, Ask, Return, Decline, Satisfied, Release}
use Rattle.secured.specs.Bookings.{lot_of}
use Rattle.secured.specs.Lots as holds
use Rattle.pledgor.specs.Lots as posts
use Rattle.accord.specs.Standing.{Word, new, old, returned, declined, only, words, Standing, home, sent, held, sent_asked, asked, owed_back, decline_owed, back, refused}
use Rattle.accord.specs.Agreement.{any, brings, returns}

-- a word that a lot is new
pub has_new : List Word → Bool
has_new [] = false
has_new (new x ∷ ws) = true
has_new (old ∷ ws) = has_new ws
has_new (returned ∷ ws) = has_new ws
has_new (declined ∷ ws) = has_new ws

-- a word that it is returned
pub has_returned : List Word → Bool
has_returned [] = false
has_returned (new x ∷ ws) = has_returned ws
has_returned (old ∷ ws) = has_returned ws
has_returned (returned ∷ ws) = true
has_returned (declined ∷ ws) = has_returned ws

new_only : (b : Bool) (v : Lot) (ws : List Word) → has_new (only b (new v) ++ ws) ≡ (b || has_new ws)
unfolding has_new
new_only true v ws = refl
new_only false v ws = refl

new_old : (b c : Bool) (v : Lot) (ws : List Word) → has_new ((only b old ++ only c (new v)) ++ ws) ≡ (c || has_new ws)
unfolding has_new
new_old true c v ws = new_only c v ws
new_old false c v ws = new_only c v ws

new_other : (b : Bool) (ws : List Word) → (has_new (only b old ++ ws) ≡ has_new ws) × (has_new (only b returned ++ ws) ≡ has_new ws) × (has_new (only b declined ++ ws) ≡ has_new ws)
unfolding has_new
new_other true ws = (refl, refl, refl)
new_other false ws = (refl, refl, refl)

-- a new lot is one that a Delivery or a Substitute brings
pub new_brings : (k : ℕ) (ms : List Message) → has_new (words k ms) ≡ any (brings k) ms
unfolding has_new
new_brings k [] = refl
new_brings k (Quiet n e ∷ ms) = new_brings k ms
new_brings k (Call n e a ∷ ms) = new_brings k ms
new_brings k (Offer n e a ∷ ms) = new_brings k ms
new_brings k (Agree n ∷ ms) = new_brings k ms
new_brings k (Dispute n a ∷ ms) = new_brings k ms
new_brings k (Resolve n e a ∷ ms) = new_brings k ms
new_brings k (Delivery n l c f ∷ ms) = new_only (eqb l k) (lot_of c f) (words k ms) ∙ ap (λ z. eqb l k || z) (new_brings k ms)
new_brings k (Substitute l c f o ∷ ms) = new_old (eqb o k) (eqb l k) (lot_of c f) (words k ms) ∙ ap (λ z. eqb l k || z) (new_brings k ms)
new_brings k (Ask n l ∷ ms) = (new_other (eqb l k) (words k ms)).0 ∙ new_brings k ms
new_brings k (Return l ∷ ms) = (new_other (eqb l k) (words k ms)).1 ∙ new_brings k ms
new_brings k (Decline l ∷ ms) = (new_other (eqb l k) (words k ms)).2 ∙ new_brings k ms
new_brings k (Satisfied n ∷ ms) = new_brings k ms
new_brings k (Release n ∷ ms) = new_brings k ms

returned_only : (b : Bool) (ws : List Word) → has_returned (only b returned ++ ws) ≡ (b || has_returned ws)
unfolding has_returned
returned_only true ws = refl
returned_only false ws = refl

returned_other : (b : Bool) (v : Lot) (ws : List Word) → (has_returned (only b (new v) ++ ws) ≡ has_returned ws) × (has_returned (only b old ++ ws) ≡ has_returned ws) × (has_returned (only b declined ++ ws) ≡ has_returned ws)
unfolding has_returned
returned_other true v ws = (refl, refl, refl)
returned_other false v ws = (refl, refl, refl)

returned_both : (b c : Bool) (v : Lot) (ws : List Word) → has_returned ((only b old ++ only c (new v)) ++ ws) ≡ has_returned ws
unfolding has_returned
returned_both true c v ws = (returned_other c v ws).0
returned_both false c v ws = (returned_other c v ws).0

-- a returned lot is one of which a Return is under way
pub returned_returns : (k : ℕ) (ms : List Message) → has_returned (words k ms) ≡ any (returns k) ms
unfolding has_returned
returned_returns k [] = refl
returned_returns k (Quiet n e ∷ ms) = returned_returns k ms
returned_returns k (Call n e a ∷ ms) = returned_returns k ms
returned_returns k (Offer n e a ∷ ms) = returned_returns k ms
returned_returns k (Agree n ∷ ms) = returned_returns k ms
returned_returns k (Dispute n a ∷ ms) = returned_returns k ms
returned_returns k (Resolve n e a ∷ ms) = returned_returns k ms
returned_returns k (Delivery n l c f ∷ ms) = (returned_other (eqb l k) (lot_of c f) (words k ms)).0 ∙ returned_returns k ms
returned_returns k (Substitute l c f o ∷ ms) = returned_both (eqb o k) (eqb l k) (lot_of c f) (words k ms) ∙ returned_returns k ms
returned_returns k (Ask n l ∷ ms) = (returned_other (eqb l k) (lot_of 0 0) (words k ms)).1 ∙ returned_returns k ms
returned_returns k (Return l ∷ ms) = returned_only (eqb l k) (words k ms) ∙ ap (λ z. eqb l k || z) (returned_returns k ms)
returned_returns k (Decline l ∷ ms) = (returned_other (eqb l k) (lot_of 0 0) (words k ms)).2 ∙ returned_returns k ms
returned_returns k (Satisfied n ∷ ms) = returned_returns k ms
returned_returns k (Release n ∷ ms) = returned_returns k ms

-- with nothing under way both ends show a lot alike
pub shown_same : {x : PledgorLot} {a : SecuredLot} → Standing x [] a [] → holds.shown a ≡ posts.shown x.place x.lot
shown_same home = refl
shown_same held = refl
shown_same owed_back = refl
shown_same decline_owed = refl

nothing : {A : Type 0} {v w : A} → ◌≡◌ {A = Option A} None (Some v) → ◌≡◌ {A = Option A} (Some w) (Some v)
nothing e = let z : ◌≡◌ {A = ℕ} 0 1 = cc in let w : ⊥ = omega arith in absurd w

-- what the secured end shows, the pledgor does
pub shown_both : {x : PledgorLot} {us ds : List Word} {a : SecuredLot} (v : Lot) → Standing x us a ds → holds.shown a ≡ Some v → posts.shown x.place x.lot ≡ Some v
shown_both v home e = e
shown_both v sent e = nothing e
shown_both v held e = e
shown_both v sent_asked e = nothing e
shown_both v asked e = e
shown_both v owed_back e = e
shown_both v decline_owed e = e
shown_both v back e = nothing e
shown_both v refused e = e

-- both ends show a lot alike, or it is new or returned
pub shown_or : {x : PledgorLot} {us ds : List Word} {a : SecuredLot} → Standing x us a ds → (holds.shown a ≡ posts.shown x.place x.lot) ⊎ ((has_new us || has_returned ds) ≡ true)
unfolding has_new has_returned
shown_or home = inl refl
shown_or sent = inr refl
shown_or held = inl refl
shown_or sent_asked = inr refl
shown_or asked = inl refl
shown_or owed_back = inl refl
shown_or decline_owed = inl refl
shown_or back = inr refl
shown_or refused = inl refl
