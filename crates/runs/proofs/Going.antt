-- A round can always be made.
use Rattle.std.proofs.Common.{◌≡◌, ℕ, Bool, true, false, List, [], ◌∷◌, ◌++◌, map, length, drop, Some, None, Ok, Err, sym, refl, ap, ◌<◌, ◌≤◌, ◌⊎◌, inl, inr, arith}
use mathlib.Core.List.{replicate}
use Rattle.std.proofs.lemmas.List.{take_at}
use Rattle.std.proofs.lemmas.List.Elements.{All-head}
use Rattle.std.proofs.lemmas.Bool.{cases_lt}
use Rattle.refusal.specs.declared.Refusal.TheVariants.{CarrierFull}
use Rattle.message.specs.declared.Message.{Message}
use Rattle.frame.specs.Packets.{written}
use Rattle.carrier.specs.Means.{Means}
use Rattle.law.specs.Link.{App, Frame}
use Rattle.link.specs.declared.turned.Turned.{Turned}
use Rattle.link.specs.Kept.{offered}
use Rattle.runs.specs.Turns.{Collected, Gathers, Hears, Plain, Posts, ack_of, after_by, tells}
use Rattle.runs.specs.Runs.{Side, Turn, round, turn}
use Rattle.runs.specs.Laws.{ARoundCanBeMade}
use Rattle.runs.proofs.Lifting.{CanBeSent, bytes_fit, bytes_of, packet_of}
use Rattle.runs.proofs.Shadows.{Waits, secured_lift, shadow}

abbrev blank : List ℕ
blank = replicate 64 0

-- nothing waits, and nothing is gathered
gathers_none : (i : Means) → i.waiting ≡ [] → Gathers i None i
gathers_none i e = record {
  buffer = blank;
  filled = blank;
  answer = None;
  collects = record { wide = omega arith; acts = []; between = i.waiting; waits = refl; taken = rw e (refl, refl); same_places = refl; spent = omega arith };
  front = refl;
}

-- the first that waits is gathered
gathers_first : (i : Means) (f : List ℕ) (fs : List (List ℕ)) → i.waiting ≡ f ∷ fs → Gathers i (Some f) (record { waiting = fs; places = i.places; faults = i.faults })
gathers_first i f fs e = record {
  buffer = blank;
  filled = f ++ drop (length f) blank;
  answer = Some (length f);
  collects = record { wide = omega arith; acts = []; between = i.waiting; waits = refl; taken = rw e (refl, refl, refl); same_places = refl; spent = omega arith };
  front = ap Some (sym (take_at f (drop (length f) blank) (length f) refl));
}

record HearsSome {C St : Type 0} (app : App Message C St) (p : Plain St) (i : Means) : Type 0 where
  collected : Collected
  after : Plain St
  left : Means
  does : Hears app p i collected after left

record PostsSome {St : Type 0} (q : Plain St) (o : Means) : Type 0 where
  posted : Bool
  left : Means
  does : Posts q o posted left

record TurnsSome {C St : Type 0} (app : App Message C St) (s : Side St) (i o : Means) : Type 0 where
  answer : Turned
  after : Side St
  left_in : Means
  left_out : Means
  does : Turn app s i o answer after left_in left_out

module _ {C St : Type 0} (app : App Message C St) where
  hears_some : (p : Plain St) (i : Means) (us : List (Frame Message)) → Waits i us → HearsSome app p i
  hears_some p i [] w = record { collected = Ok None; after = p; left = i; does = record { frame = None; gathers = gathers_none i w.bytes; hears = (refl, refl) } }
  hears_some p i (u ∷ us) w =
      let b = tells app p (packet_of u) in
      record {
        collected = b;
        after = after_by app b (ack_of (packet_of u)) p;
        left = record { waiting = map bytes_of us; places = i.places; faults = i.faults };
        does = record {
          frame = Some (bytes_of u);
          gathers = gathers_first i (bytes_of u) (map bytes_of us) w.bytes;
          hears = record { read = Ok (packet_of u); reads = (refl, All-head CanBeSent u us w.sent); does = (refl, refl) };
        };
      }

  posts_by : (q : Plain St) (o : Means) → (length o.waiting < o.places) ⊎ (o.places ≤ length o.waiting) → PostsSome q o
  posts_by q o (inl l) = record {
    posted = true;
    left = record { waiting = o.waiting ++ (written (offered q.kept) ∷ []); places = o.places; faults = o.faults };
    does = record {
      result = Ok tt;
      posts = record { fit = bytes_fit (offered q.kept); room = l; acts = []; waits = refl; same_places = refl; spent = omega arith };
      found = refl;
    };
  }
  posts_by q o (inr l) = record {
    posted = false;
    left = o;
    does = record { result = Err CarrierFull; posts = (inr (refl, bytes_fit (offered q.kept), l), refl); found = refl };
  }

  turns_some : (s : Side St) (i o : Means) (us : List (Frame Message)) → Waits i us → TurnsSome app s i o
  turns_some s i o us w =
      let c = hears_some s.plain i us w in
      let d = posts_by c.after o (cases_lt (length o.waiting) o.places) in
      record { answer = record { collected = c.collected; posted = d.posted }; after = _; left_in = c.left; left_out = d.left; does = turn {is = s.issued} {bs = s.booked} (record { collects = c.does; posts = d.does }) }

pub goes : (C St : Type 0) → ARoundCanBeMade C St
goes C St app s p w r =
    let h = shadow r in
    let t = turns_some app w.secured w.back w.forth h.back h.back_waits in
    let k = secured_lift h t.does in
    let u = turns_some app w.pledgor t.left_out t.left_in k.outs k.out_waits in
    (record { secured = t.after; pledgor = u.after; forth = u.left_in; back = u.left_out }, round t.does u.does)
