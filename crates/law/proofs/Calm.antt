-- Turns in which no fault act happens: a frame moves one place nearer in every pair of turns.
use Rattle.std.proofs.Common.{◌≡◌, ℕ, zero, suc, ◌+◌, ◌<◌, ◌≤◌, T, Some, None, Option, IfSome, List, [], ◌∷◌, ◌++◌, length, ◌⊎◌, inl, inr, arith}
use Rattle.std.proofs.lemmas.Bool.{cases_lt}
use Rattle.std.specs.List.{All}
use Rattle.std.proofs.lemmas.List.Elements.{All-head}
use Rattle.law.specs.Link.{App, Frame, message, alone, ack_of, Chan, End, next, offer, oldest, done, again, faulted, Posted, full, joined, Collected, nothing, first, Heard, declined, acknowledged, accepted, misfit, dropped, Turn, turn}
use Rattle.law.specs.Laws.{Upto}
use Rattle.law.proofs.Channels.{spent_posted, spent_collected}
use Rattle.law.proofs.Half.{ack_oldest}
use Rattle.law.proofs.Turns.{moved_heard}

pub data Take {M : Type 0} : List (Frame M) → Option (Frame M) → List (Frame M) → Type 0 where
  take_none : Take [] None []
  take_one : {f : Frame M} {ws : List (Frame M)} → Take (f ∷ ws) (Some f) ws

pub data Put {M : Type 0} (p : ℕ) (f : Frame M) : List (Frame M) → List (Frame M) → Type 0 where
  put_full : {ws : List (Frame M)} → length ws ≡ p → Put p f ws ws
  put_last : {ws : List (Frame M)} → length ws < p → Put p f ws (ws ++ (f ∷ []))

-- a turn of the end e in which nothing was lost, copied or moved: it takes from is, hears, and puts to os, which has p places
pub data Calm {M C St : Type 0} (app : App M C St) (p : ℕ) : End M St → List (Frame M) → List (Frame M) → End M St → List (Frame M) → List (Frame M) → Type 0 where
  calm : {e e' : End M St} {is is' os os' : List (Frame M)} {x : Option (Frame M)} → Take is x is' → Heard app e x e' → Put p (offer e') os os' → Calm app p e is os e' is' os'

module _ {M : Type 0} where
  -- where the faults left do not fall, nothing again
  calm_collected : {c d : Chan M} {x : Option (Frame M)} → Collected c x d → c.faults ≤ d.faults → Take c.waiting x d.waiting
  calm_collected (nothing (faulted done l)) h = take_none
  calm_collected (nothing (faulted (again a r) l)) h = absurd (omega arith)
  calm_collected (first (faulted done l)) h = take_one
  calm_collected (first (faulted (again a r) l)) h = absurd (omega arith)

  calm_posted : {f : Frame M} {c d : Chan M} → Posted f c d → c.faults ≤ d.faults → Put c.places f c.waiting d.waiting
  calm_posted (full e) h = put_full e
  calm_posted (joined r (faulted done l)) h = put_last r
  calm_posted (joined r (faulted (again a q) l)) h = absurd (omega arith)

module _ {M C St : Type 0} {app : App M C St} where
  pub calm_turn : {e e' : End M St} {i i' o o' : Chan M} → Turn app e i o e' i' o' → i.faults + o.faults ≤ i'.faults + o'.faults →
      Calm app o.places e i.waiting o.waiting e' i'.waiting o'.waiting
  calm_turn (turn c r p) h = calm (calm_collected c (omega (arith, (spent_posted p).faults))) r (calm_posted p (omega (arith, (spent_collected c).faults)))

-- the frame at the place i has the property P
abbrev pub Sits : {A : Type 0} → (A → Type 0) → List A → ℕ → Type 0
Sits P [] i = ⊥
Sits P (x ∷ xs) zero = P x
Sits P (x ∷ xs) (suc i) = Sits P xs i

sits_more : {A : Type 0} (P : A → Type 0) (xs ys : List A) (i : ℕ) → Sits P xs i → Sits P (xs ++ ys) i
sits_more P [] ys i s = absurd s
sits_more P (x ∷ xs) ys zero s = s
sits_more P (x ∷ xs) ys (suc i) s = sits_more P xs ys i s

sits_last : {A : Type 0} (P : A → Type 0) (xs : List A) (x : A) → P x → Sits P (xs ++ (x ∷ [])) (length xs)
sits_last P [] x p = p
sits_last P (y ∷ xs) x p = sits_last P xs x p

-- it acknowledges the number n
abbrev pub Above : {M : Type 0} → ℕ → Frame M → Type 0
Above n f = n < ack_of f

-- it carries the message of the number n
abbrev pub Numbered : {M : Type 0} → ℕ → Frame M → Type 0
Numbered n (message k a m) = k ≡ n
Numbered n (alone a) = ⊥

-- the message, if it is the expected one, fits
abbrev pub Fine : {M C St : Type 0} → App M C St → End M St → Frame M → Type 0
Fine app e (message n k m) = n ≡ e.expected → T (app.fits e.state m)
Fine app e (alone k) = Unit {0}

-- How near the number n is to being acknowledged, in pairs of turns (the sender's first): at most j more.
-- C bounds the places; b is the sender's base.
pub data Near {M : Type 0} (n C j b : ℕ) (fw bw : List (Frame M)) : Type 0 where
  cleared : n < b → Near n C j b fw bw
  answered : (i : ℕ) → i < j → Sits (Above n) bw i → Near n C j b fw bw
  flying : (i : ℕ) → C + i < j → Sits (Numbered n) fw i → Near n C j b fw bw
  begun : C + C ≤ j → Near n C j b fw bw

-- the same between the two turns of a pair
pub data Mid {M : Type 0} (n C j b : ℕ) (fw bw : List (Frame M)) : Type 0 where
  mid_cleared : n < b → Mid n C j b fw bw
  mid_answered : (i : ℕ) → i < j → Sits (Above n) bw i → Mid n C j b fw bw
  mid_flying : (i : ℕ) → C + i ≤ j → Sits (Numbered n) fw i → Mid n C j b fw bw

module _ {M : Type 0} where
  pub take_room : {ws vs : List (Frame M)} {x : Option (Frame M)} {p : ℕ} → Take ws x vs → length ws ≤ p → 1 ≤ p → length vs < p
  take_room take_none h k = k
  take_room take_one h k = h

  put_sits : {p : ℕ} {f : Frame M} {ws vs : List (Frame M)} (P : Frame M → Type 0) (i : ℕ) → Put p f ws vs → Sits P ws i → Sits P vs i
  put_sits P i (put_full e) s = s
  put_sits {f = f} P i (put_last {ws = ws} l) s = sits_more P ws (f ∷ []) i s

  put_room : {p : ℕ} {f : Frame M} {ws vs : List (Frame M)} (P : Frame M → Type 0) → Put p f ws vs → length ws < p → P f → Sits P vs (length ws)
  put_room P (put_full e) r s = absurd (omega arith)
  put_room {f = f} P (put_last {ws = ws} l) r s = sits_last P ws f s

  numbered_oldest : {n : ℕ} (b x : ℕ) (ps : List M) → b ≡ n → 1 ≤ length ps → Numbered n (oldest b x ps)
  numbered_oldest b x [] e l = absurd (omega arith)
  numbered_oldest b x (m ∷ ms) e l = e

  take_given : {ws vs : List (Frame M)} {x : Option (Frame M)} (P : Frame M → Type 0) → Take ws x vs → All P ws → IfSome x P
  take_given P take_none h = tt
  take_given P (take_one {f = f} {ws = ws}) h = All-head P f ws h

module _ {M C St : Type 0} {app : App M C St} where
  -- an acknowledgement of n that is not declined clears it
  heard_above : {a a' : End M St} {n : ℕ} {f : Frame M} → Heard app a (Some f) a' → ack_of f ≤ next a → Fine app a f → n < ack_of f → n < a'.base
  heard_above (declined l) h y k = absurd (omega arith)
  heard_above (acknowledged l) h y k = omega arith
  heard_above (accepted l e t) h y k = omega arith
  heard_above (misfit l e z) h y k = absurd (z (y e))
  heard_above (dropped l e) h y k = omega arith

  -- the message n, not declined, is expected no longer
  heard_numbered : {c c' : End M St} {n : ℕ} {f : Frame M} → Heard app c (Some f) c' → ack_of f ≤ next c → Fine app c f → n ≤ c.expected → Numbered n f → n < c'.expected
  heard_numbered (declined l) h y k e = absurd (omega arith)
  heard_numbered (acknowledged l) h y k e = absurd e
  heard_numbered (accepted l q t) h y k e = omega arith
  heard_numbered (misfit l q z) h y k e = absurd (z (y q))
  heard_numbered (dropped l q) h y k e = omega arith

  -- the answered case of the sender's turn
  sender_answered : {a a' : End M St} {n C j : ℕ} {fw bw bw' : List (Frame M)} {x : Option (Frame M)} (i : ℕ) → Take bw x bw' → Heard app a x a' →
      IfSome x (Upto (next a)) → IfSome x (Fine app a) → i < suc j → Sits (Above n) bw i → Mid n C j a'.base fw bw'
  sender_answered i take_none r g y l s = absurd s
  sender_answered zero take_one r g y l s = mid_cleared (heard_above r g y s)
  sender_answered (suc i) take_one r g y l s = mid_answered i (omega arith) s

  -- the flying case of the receiver's turn
  receiver_flying : {c c' : End M St} {n C j q b : ℕ} {fw fw' bw bw' : List (Frame M)} {x : Option (Frame M)} (i : ℕ) → Take fw x fw' → Heard app c x c' → Put q (offer c') bw bw' →
      IfSome x (Upto (next c)) → IfSome x (Fine app c) → n ≤ c.expected → length bw < q → q ≤ C → C + i ≤ j → Sits (Numbered n) fw i → Near n C j b fw' bw'
  receiver_flying i take_none r p g y e lq lC l s = absurd s
  receiver_flying {c' = c'} {n = n} {bw = bw} zero take_one r p g y e lq lC l s =
      answered (length bw) (omega arith) (put_room (Above n) p lq (omega (arith, ack_oldest c'.base c'.expected c'.pending, heard_numbered r g y e s)))
  receiver_flying (suc i) take_one r p g y e lq lC l s = flying i (omega arith) s

  pub sender_step : {a a' : End M St} {n C j p : ℕ} {fw fw' bw bw' : List (Frame M)} → Calm app p a bw fw a' bw' fw' → All (Upto (next a)) bw → All (Fine app a) bw →
      n ≤ a.base → n < next a' → length fw < p → p ≤ C → Near n C (suc j) a.base fw bw → Mid n C j a'.base fw' bw'
  sender_step (calm t r u) h hf ln lx lp lC (cleared l) = mid_cleared (omega (arith, (moved_heard r).base))
  sender_step {a = a} (calm t r u) h hf ln lx lp lC (answered i l s) = sender_answered i t r (take_given (Upto (next a)) t h) (take_given (Fine app a) t hf) l s
  sender_step {n = n} (calm t r u) h hf ln lx lp lC (flying i l s) = mid_flying i (omega arith) (put_sits (Numbered n) i u s)
  sender_step {a = a} {a' = a'} {n = n} {C = C} {j = j} {fw = fw} {fw' = fw'} {bw' = bw'} (calm t r u) h hf ln lx lp lC (begun l) = post (cases_lt n a'.base)
    where
      post : (n < a'.base) ⊎ (a'.base ≤ n) → Mid n C j a'.base fw' bw'
      post (inl y) = mid_cleared y
      post (inr z) = mid_flying (length fw) (omega arith)
          (put_room (Numbered n) u lp (numbered_oldest a'.base a'.expected a'.pending (omega (arith, (moved_heard r).base)) (omega (arith, (moved_heard r).base))))

  pub receiver_step : {c c' : End M St} {n C j q b : ℕ} {fw fw' bw bw' : List (Frame M)} → Calm app q c fw bw c' fw' bw' → All (Upto (next c)) fw → All (Fine app c) fw →
      n ≤ c.expected → length bw < q → q ≤ C → Mid n C j b fw bw → Near n C j b fw' bw'
  receiver_step (calm t r u) h hf le lq lC (mid_cleared l) = cleared l
  receiver_step {n = n} (calm t r u) h hf le lq lC (mid_answered i l s) = answered i l (put_sits (Above n) i u s)
  receiver_step {c = c} (calm t r u) h hf le lq lC (mid_flying i l s) = receiver_flying i t r u (take_given (Upto (next c)) t h) (take_given (Fine app c) t hf) le lq lC l s

  pub calm_room : {e e' : End M St} {is is' os os' : List (Frame M)} {p q : ℕ} → Calm app p e is os e' is' os' → length is ≤ q → 1 ≤ q → length is' < q
  calm_room (calm t r u) h k = take_room t h k
