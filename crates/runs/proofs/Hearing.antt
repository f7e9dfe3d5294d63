-- What bytes do to an end, as what a frame does to an end of the law; the ranges stay, and what is booked has the expected number.
use Rattle.std.proofs.Common.{◌≡◌, ℕ, suc, ◌<◌, ◌≤◌, Bool, true, false, T, ltb, eqb, List, [], ◌∷◌, length, option_map, Some, None, Ok, Err, Option, Result, IfSome, IfErr, sym, refl, subst, arith}
use Rattle.std.proofs.lemmas.List.{map_push}
use Rattle.std.proofs.lemmas.Bool.{ltb-true, ltb-false, eqb-true, eqb-false, cond_both}
use Rattle.refusal.specs.declared.Refusal.{Refusal}
use Rattle.refusal.specs.declared.Refusal.TheVariants as refusal
use Rattle.refusal.specs.Numbers.{number_of}
use Rattle.message.specs.declared.Message.{Message}
use Rattle.frame.specs.declared.Packet.{Packet}
use Rattle.frame.proofs.Once.{reads_back}
use Rattle.law.specs.Link as law
use Rattle.law.specs.Link.{App, Frame}
use Rattle.link.specs.declared.state.Standing.TheVariants.{Expected, Repeat, Early}
use Rattle.link.specs.declared.turned.Received.TheVariants as received
use Rattle.link.specs.Kept.{Kept, Ranged, cleared, next_of, offered, offers, standing_of}
use Rattle.link.proofs.Ranges.{ranged_await, ranged_clear}
use Rattle.runs.specs.Turns.{Collected, Entry, HeardAs, HeardFrame, Plain, ack_of, after_by, becomes, becomes_alone, tells}
use Rattle.runs.specs.Runs.{noted}
use Rattle.runs.specs.Laws.{Counted, messages}
use Rattle.runs.proofs.Counting.{counted_push, length_messages}
use Rattle.runs.proofs.Lifting.{CanBeSent, bytes_of, packet_of}

-- the end of the law
abbrev pub end_of : {St : Type 0} → Plain St → List Entry → List Entry → law.End Message St
end_of p is bs = record { state = p.book; base = p.kept.base; pending = p.kept.pending; expected = p.kept.expected; issued = messages is; booked = messages bs }

-- the frame to post is that of the law
offers_is : (b x : ℕ) (ms : List Message) → offers b x ms ≡ packet_of (law.oldest b x ms)
offers_is b x [] = refl
offers_is b x (m ∷ ms) = refl

pub offered_is : (k : Kept) → offered k ≡ packet_of (law.oldest k.base k.expected k.pending)
offered_is k = offers_is k.base k.expected k.pending

-- what an end tells of a frame, by what the frame is to it
pub data Told {C St : Type 0} (app : App Message C St) (p : Plain St) : Frame Message → Collected → Type 0 where
  high : {u : Frame Message} {e : Refusal} → next_of p.kept < law.ack_of u → Told app p u (Err e)
  alone : {a : ℕ} → a ≤ next_of p.kept → Told app p (law.alone a) (Ok (Some received.Acknowledgement))
  booked : {n a : ℕ} {m : Message} → a ≤ next_of p.kept → n ≡ p.kept.expected → T (app.fits p.book m) → Told app p (law.message n a m) (Ok (Some (received.Booked n m)))
  misfit : {n a : ℕ} {m : Message} → a ≤ next_of p.kept → n ≡ p.kept.expected → ¬ T (app.fits p.book m) → Told app p (law.message n a m) (Err (refusal.Misfit n))
  repeat : {n a : ℕ} {m : Message} → a ≤ next_of p.kept → (n ≡ p.kept.expected → ⊥) → Told app p (law.message n a m) (Ok (Some (received.Repeat n)))
  early : {n a : ℕ} {m : Message} → a ≤ next_of p.kept → (n ≡ p.kept.expected → ⊥) → Told app p (law.message n a m) (Ok (Some (received.Early n)))

module _ {C St : Type 0} (app : App Message C St) (p : Plain St) where
  told_fit : (n a : ℕ) (m : Message) (f : Bool) → app.fits p.book m ≡ f → a ≤ next_of p.kept → n ≡ p.kept.expected → Told app p (law.message n a m) (becomes (Ok Expected) f n m)
  told_fit n a m true e l q = booked l q (subst T (sym e) tt)
  told_fit n a m false e l q = misfit l q (λ t. subst T e t)

  told_message : (n a : ℕ) (m : Message) → a ≤ next_of p.kept → Told app p (law.message n a m) (becomes (Ok (standing_of p.kept n)) (app.fits p.book m) n m)
  told_message n a m l =
      cond_both (eqb n p.kept.expected) _ _ (λ s. Told app p (law.message n a m) (becomes (Ok s) (app.fits p.book m) n m))
      (λ e. told_fit n a m (app.fits p.book m) refl l (eqb-true n p.kept.expected e))
      (λ e. cond_both (ltb n p.kept.expected) Repeat Early (λ s. Told app p (law.message n a m) (becomes (Ok s) (app.fits p.book m) n m))
      (λ _. repeat l (eqb-false n p.kept.expected e)) (λ _. early l (eqb-false n p.kept.expected e)))

  pub told_frame : (u : Frame Message) → Told app p u (tells app p (packet_of u))
  told_frame (law.message n a m) =
      cond_both (ltb (next_of p.kept) a) _ _ (λ r. Told app p (law.message n a m) (becomes r (app.fits p.book m) n m))
      (λ e. high (ltb-true (next_of p.kept) a e)) (λ e. told_message n a m (ltb-false (next_of p.kept) a e))
  told_frame (law.alone a) =
      cond_both (ltb (next_of p.kept) a) _ _ (λ r. Told app p (law.alone a) (becomes_alone r))
      (λ e. high (ltb-true (next_of p.kept) a e)) (λ e. alone (ltb-false (next_of p.kept) a e))

  -- what is refused of a frame whose acknowledgement is in range is refused by 5
  pub refuses_misfits : {u : Frame Message} {b : Collected} → Told app p u b → law.ack_of u ≤ next_of p.kept → IfErr b (λ e. number_of e ≡ 5)
  refuses_misfits (high l) h = absurd (omega arith)
  refuses_misfits (alone l) h = tt
  refuses_misfits (booked l q t) h = tt
  refuses_misfits (misfit l q z) h = refl
  refuses_misfits (repeat l z) h = tt
  refuses_misfits (early l z) h = tt

  -- what is done by the bytes of a frame that can be sent
  pub heard_so : {q : Plain St} {b : Collected} (u : Frame Message) → CanBeSent u → HeardFrame app p (Some (bytes_of u)) b q → HeardAs app p (Ok (packet_of u)) b q
  heard_so {q} {b} u s h = subst (λ (r : Result Packet Refusal). HeardAs app p r b q) (reads_back (packet_of u) h.read s h.reads) h.does

-- the end q after the frame x, of which b was told, as an end of the law
pub record Heard {C St : Type 0} (app : App Message C St) (p : Plain St) (is bs : List Entry) (x : Option (Frame Message)) (b : Collected) (q : Plain St) : Type 0 where
  pub heard : law.Heard app (end_of p is bs) x (end_of q is (noted bs b))
  pub ranged : Ranged q.kept
  pub counted : Counted 1 (noted bs b)

module _ {C St : Type 0} (app : App Message C St) (p : Plain St) (is bs : List Entry) (r : Ranged p.kept) (x : p.kept.expected ≡ suc (length (messages bs))) (c : Counted 1 bs) where
  heard_told : {u : Frame Message} {b : Collected} → Told app p u b → CanBeSent u → Heard app p is bs (Some u) b (after_by app b (ack_of (packet_of u)) p)
  heard_told (high l) s = record { heard = law.declined l; ranged = r; counted = c }
  heard_told (alone {a = a} l) s = record { heard = law.acknowledged l; ranged = ranged_clear a p.kept l r; counted = c }
  heard_told (booked {n = n} {a = a} {m = m} l q t) s = record {
    heard = rw (map_push (λ (e : Entry). e.message) bs (record { number = n; message = m })) (law.accepted l q t);
    ranged = ranged_await (cleared a p.kept) (grind (arith, s.0)) (ranged_clear a p.kept l r);
    counted = counted_push 1 bs (record { number = n; message = m }) c (omega (arith, length_messages bs));
  }
  heard_told (misfit l q z) s = record { heard = law.misfit l q z; ranged = r; counted = c }
  heard_told (repeat {a = a} l z) s = record { heard = law.dropped l z; ranged = ranged_clear a p.kept l r; counted = c }
  heard_told (early {a = a} l z) s = record { heard = law.dropped l z; ranged = ranged_clear a p.kept l r; counted = c }

  pub heard_lift : (q : Plain St) (b : Collected) (y : Option (Frame Message)) → IfSome y CanBeSent → HeardFrame app p (option_map bytes_of y) b q → Heard app p is bs y b q
  heard_lift q b None g h = rw (h.0, h.1) (record { heard = law.silent; ranged = r; counted = c })
  heard_lift q b (Some u) g h = let d = heard_so app p u g h in rw (d.1, d.0) (heard_told (told_frame app p u) g)
