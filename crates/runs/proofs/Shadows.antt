-- Every world of bytes that a run reaches is the written form of a world that a run of the law reaches.
use Rattle.std.proofs.Common.{◌≡◌, ℕ, suc, ◌≤◌, ◌⊎◌, List, [], map, length, option_map, Some, None, Ok, Err, Option, Result, refl, inl, inr, arith}
use Rattle.std.specs.List.{All}
use Rattle.std.proofs.lemmas.List.{map_push}
use Rattle.std.proofs.lemmas.List.Elements.{All-nil}
use Rattle.refusal.specs.declared.Refusal.{Refusal}
use Rattle.message.specs.declared.Message.{Message}
use Rattle.carrier.specs.Means.{Means}
use Rattle.law.specs.Link as law
use Rattle.law.specs.Link.{App, Frame}
use Rattle.law.proofs.Channels.{all_collected, all_posted}
use Rattle.law.proofs.Half.{next_is}
use Rattle.law.proofs.Runs.{inv}
use Rattle.link.specs.declared.turned.Turned.{Turned}
use Rattle.link.specs.Kept.{Ranged, admits, next_of}
use Rattle.link.proofs.Ranges.{ranged_join, ranged_offer, ranged_opened}
use Rattle.runs.specs.Turns.{Called, Entry, HeardFrame, admitted_as, drafted_as}
use Rattle.runs.specs.Runs.{Reached, Side, Step, Turn, World, began, calling, pledgor_calls, pledgor_turns, secured_calls, secured_turns, sent, stepped, turn}
use Rattle.runs.specs.Laws.{Counted, messages}
use Rattle.runs.proofs.Counting.{counted_push, length_messages}
use Rattle.runs.proofs.Hearing.{end_of, heard_lift, offered_is}
use Rattle.runs.proofs.Lifting.{CanBeSent, bytes_of, chan_of, collect_lift, post_lift}
use Rattle.runs.proofs.Ranging.{admitted}

abbrev pub side_of : {St : Type 0} → Side St → law.End Message St
side_of s = end_of s.plain s.issued s.booked

abbrev pub world_of : {St : Type 0} → World St → List (Frame Message) → List (Frame Message) → law.World Message St
world_of w xs ys = record { secured = side_of w.secured; pledgor = side_of w.pledgor; forth = chan_of xs w.forth; back = chan_of ys w.back }

-- an end's numbers are in range, and its histories count from 1
pub record Tidy {St : Type 0} (s : Side St) : Type 0 where
  pub ranged : Ranged s.plain.kept
  pub issued_counted : Counted 1 s.issued
  pub booked_counted : Counted 1 s.booked

-- the frames whose bytes wait in a carrier, all of which can be sent
pub record Waits (m : Means) (us : List (Frame Message)) : Type 0 where
  pub bytes : m.waiting ≡ map bytes_of us
  pub sent : All CanBeSent us

-- a turn of bytes, as a turn of the law
pub record TurnLift {C St : Type 0} (app : App Message C St) (s s' : Side St) (i i' o o' : Means) (xs ys : List (Frame Message)) : Type 0 where
  pub ins : List (Frame Message)
  pub outs : List (Frame Message)
  pub in_waits : Waits i' ins
  pub out_waits : Waits o' outs
  pub tidy : Tidy s'
  pub does : law.Turn app (side_of s) (chan_of xs i) (chan_of ys o) (side_of s') (chan_of ins i') (chan_of outs o')

-- a call, as a call of the law: refused, or it issues
pub record CallLift {C St : Type 0} (app : App Message C St) (s s' : Side St) : Type 0 where
  pub tidy : Tidy s'
  pub does : (side_of s' ≡ side_of s) ⊎ law.Issued app (side_of s) (side_of s')

abbrev called_to : {St : Type 0} → Side St → Called St → Side St
called_to s k = record { plain = k.after; issued = sent s.issued k.answer; booked = s.booked }

module _ {C St : Type 0} {app : App Message C St} where
  turn_lift : {s s' : Side St} {i i' o o' : Means} {r : Turned} (xs ys : List (Frame Message)) → Waits i xs → Waits o ys →
      length ys ≤ o.places → s.plain.kept.expected ≡ suc (length (messages s.booked)) → Tidy s → Turn app s i o r s' i' o' → TurnLift app s s' i i' o o' xs ys
  turn_lift xs ys f g l x n (turn {p = p} {q = q} {is = is} {bs = bs} {i = i} {i' = i'} {o = o} {o' = o'} {r = r} t) =
      let a = collect_lift i i' t.collects.frame xs f.bytes t.collects.gathers in
      let k = all_collected CanBeSent a.does f.sent in
      let d : HeardFrame app p (option_map bytes_of a.x) r.collected q = rw (← a.told) t.collects.hears in
      let b = heard_lift app p is bs n.ranged x n.booked_counted q r.collected a.x k.0 d in
      let u = law.oldest q.kept.base q.kept.expected q.kept.pending in
      let e = offered_is q.kept in
      let c = post_lift u o o' ys t.posts.result g.bytes l (rw (← e) t.posts.posts) in
      record {
        ins = a.us;
        outs = c.us;
        in_waits = record { bytes = a.waits; sent = k.1 };
        out_waits = record { bytes = c.waits; sent = all_posted CanBeSent c.does (rw (← e) (ranged_offer q.kept b.ranged)) g.sent };
        tidy = record { ranged = b.ranged; issued_counted = n.issued_counted; booked_counted = b.counted };
        does = law.turn a.does b.heard c.does;
      }

  call_admitted : (s : Side St) (c : C) (m : Message) (t : St) (r : Result ℕ Refusal) → admits s.plain.kept m ≡ r → app.drafts s.plain.book c ≡ Some (m, t) →
      next_of s.plain.kept ≡ suc (length (messages s.issued)) → Tidy s → CallLift app s (called_to s (admitted_as r s.plain m t))
  call_admitted s c m t (Ok n) a d x h =
      let k = admitted s.plain.kept m n a in
      record {
        tidy = record {
          ranged = ranged_join s.plain.kept m k.number k.fit k.place h.ranged;
          issued_counted = counted_push 1 s.issued (record { number = n; message = m }) h.issued_counted (omega (arith, k.given, x, length_messages s.issued));
          booked_counted = h.booked_counted;
        };
        does = inr (rw (map_push (λ (e : Entry). e.message) s.issued (record { number = n; message = m })) (law.issue c m k.place k.number d));
      }
  call_admitted s c m t (Err e) a d x h = record { tidy = h; does = inl refl }

  call_drafted : (s : Side St) (c : C) (o : Option (Message × St)) → app.drafts s.plain.book c ≡ o →
      next_of s.plain.kept ≡ suc (length (messages s.issued)) → Tidy s → CallLift app s (called_to s (drafted_as o s.plain))
  call_drafted s c None d x h = record { tidy = h; does = inl refl }
  call_drafted s c (Some y) d x h = call_admitted s c y.0 y.1 (admits s.plain.kept y.0) refl d x h

  pub call_lift : (s : Side St) (c : C) → next_of s.plain.kept ≡ suc (length (messages s.issued)) → Tidy s → CallLift app s (calling app c s)
  call_lift s c x h = call_drafted s c (app.drafts s.plain.book c) refl x h

-- the frames whose bytes wait, and that the law reaches their world
pub record Shadow {C St : Type 0} (app : App Message C St) (s p : St) (w : World St) : Type 0 where
  pub there : List (Frame Message)
  pub back : List (Frame Message)
  pub there_waits : Waits w.forth there
  pub back_waits : Waits w.back back
  pub secured_tidy : Tidy w.secured
  pub pledgor_tidy : Tidy w.pledgor
  pub reached : law.Reached app s p (world_of w there back)

module _ {C St : Type 0} {app : App Message C St} {s₀ p₀ : St} where
  pub secured_lift : {s s' p : Side St} {a a' b b' : Means} {r : Turned} (h : Shadow app s₀ p₀ (record { secured = s; pledgor = p; forth = a; back = b })) → Turn app s b a r s' b' a' →
      TurnLift app s s' b b' a a' h.back h.there
  secured_lift h t = let v = inv h.reached in turn_lift h.back h.there h.back_waits h.there_waits v.go_fit.fits v.return.expected_is h.secured_tidy t

  abbrev pub secured_after : {s s' p : Side St} {a a' b b' : Means} (h : Shadow app s₀ p₀ (record { secured = s; pledgor = p; forth = a; back = b })) → TurnLift app s s' b b' a a' h.back h.there →
      Shadow app s₀ p₀ (record { secured = s'; pledgor = p; forth = a'; back = b' })
  secured_after h k = record { there = k.outs; back = k.ins; there_waits = k.out_waits; back_waits = k.in_waits; secured_tidy = k.tidy; pledgor_tidy = h.pledgor_tidy; reached = law.stepped h.reached (law.secured_turns k.does) }

  pub pledgor_lift : {s p p' : Side St} {a a' b b' : Means} {r : Turned} (h : Shadow app s₀ p₀ (record { secured = s; pledgor = p; forth = a; back = b })) → Turn app p a b r p' a' b' →
      TurnLift app p p' a a' b b' h.there h.back
  pledgor_lift h t = let v = inv h.reached in turn_lift h.there h.back h.there_waits h.back_waits v.return_fit.fits v.go.expected_is h.pledgor_tidy t

  abbrev pub pledgor_after : {s p p' : Side St} {a a' b b' : Means} (h : Shadow app s₀ p₀ (record { secured = s; pledgor = p; forth = a; back = b })) → TurnLift app p p' a a' b b' h.there h.back →
      Shadow app s₀ p₀ (record { secured = s; pledgor = p'; forth = a'; back = b' })
  pledgor_after h k = record { there = k.ins; back = k.outs; there_waits = k.in_waits; back_waits = k.out_waits; secured_tidy = h.secured_tidy; pledgor_tidy = k.tidy; reached = law.stepped h.reached (law.pledgor_turns k.does) }

  step_shadow : {w v : World St} → Step app w v → Shadow app s₀ p₀ w → Shadow app s₀ p₀ v
  step_shadow (secured_calls {s = s} {p = p} {a = a} {b = b} c) h =
      let k = call_lift {app = app} s c (next_is (inv h.reached).go) h.secured_tidy in
      record {
        there = h.there;
        back = h.back;
        there_waits = h.there_waits;
        back_waits = h.back_waits;
        secured_tidy = k.tidy;
        pledgor_tidy = h.pledgor_tidy;
        reached = elim k.does [
          | inl e ↦ rw e h.reached
          | inr j ↦ law.stepped h.reached (law.secured_issues j)
        ];
      }
  step_shadow (pledgor_calls {s = s} {p = p} {a = a} {b = b} c) h =
      let k = call_lift {app = app} p c (next_is (inv h.reached).return) h.pledgor_tidy in
      record {
        there = h.there;
        back = h.back;
        there_waits = h.there_waits;
        back_waits = h.back_waits;
        secured_tidy = h.secured_tidy;
        pledgor_tidy = k.tidy;
        reached = elim k.does [
          | inl e ↦ rw e h.reached
          | inr j ↦ law.stepped h.reached (law.pledgor_issues j)
        ];
      }
  step_shadow (secured_turns t) h = secured_after h (secured_lift h t)
  step_shadow (pledgor_turns t) h = pledgor_after h (pledgor_lift h t)

  pub shadow : {w : World St} → Reached app s₀ p₀ w → Shadow app s₀ p₀ w
  shadow (began l r) = record {
    there = [];
    back = [];
    there_waits = record { bytes = refl; sent = All-nil CanBeSent };
    back_waits = record { bytes = refl; sent = All-nil CanBeSent };
    secured_tidy = record { ranged = ranged_opened; issued_counted = tt; booked_counted = tt };
    pledgor_tidy = record { ranged = ranged_opened; issued_counted = tt; booked_counted = tt };
    reached = law.opened l r;
  }
  shadow (stepped r s) = step_shadow s (shadow r)
