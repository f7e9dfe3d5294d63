-- The law over runs of bytes, by the run of the law that shadows each.
use Rattle.std.proofs.Common.{◌≡◌, ℕ, ◌+◌, ◌≤◌, true, T, List, [], map, get_or, option_map, Some, None, Option, IfSome, IfErr, refl, one-add, arith}
use Rattle.std.specs.List.{All}
use Rattle.std.proofs.lemmas.List.Elements.{All-map, All-same}
use Rattle.refusal.specs.Numbers.{number_of}
use Rattle.message.specs.declared.Message.{Message}
use Rattle.message.specs.Ranges.{within}
use Rattle.frame.specs.Layout.{last_number}
use Rattle.carrier.specs.Means.{Means}
use Rattle.law.specs.Link as law
use Rattle.law.specs.Link.{App, Frame}
use Rattle.law.specs.Laws as over
use Rattle.law.specs.Laws.{Carries, Joint, Upto}
use Rattle.law.proofs.Channels.{all_collected}
use Rattle.law.proofs.Frames.{frames_true, in_range}
use Rattle.law.proofs.Queues.{between, fitting}
use Rattle.law.proofs.Runs.{Both, agrees, inv, swap}
use Rattle.link.specs.declared.turned.Turned.{Turned}
use Rattle.link.specs.Kept.{next_of}
use Rattle.runs.specs.Turns.{Collected, HeardFrame, Plain}
use Rattle.runs.specs.Runs.{Reached, Side, Turn, World, turn}
use Rattle.runs.specs.Laws.{Between, BookingsBeginWhatWasIssued, Counted, Fitting, MisfitsAlone, NoTurnMeetsABrokenFrame, QueuesKeepARelation, Said, TellsOf, WaitingFramesAreTrue, messages}
use Rattle.runs.proofs.Counting.{counted_at, counted_prefix, counted_same, length_messages}
use Rattle.runs.proofs.Hearing.{heard_so, refuses_misfits, told_frame}
use Rattle.runs.proofs.Lifting.{CanBeSent, bytes_of, chan_of, collect_lift, packet_of}
use Rattle.runs.proofs.Shadows.{Waits, shadow, side_of, world_of}

pub begin : (C St : Type 0) → BookingsBeginWhatWasIssued C St
begin C St app s p w r =
    let h = shadow r in
    let a = agrees Message C St app s p (world_of w h.there h.back) h.reached in
    let x = h.secured_tidy in
    let y = h.pledgor_tidy in
    record {
      there_prefix = counted_prefix 1 w.pledgor.booked w.secured.issued y.booked_counted x.issued_counted a.there_prefix;
      back_prefix = counted_prefix 1 w.secured.booked w.pledgor.issued x.booked_counted y.issued_counted a.back_prefix;
      there_all = λ e. counted_same 1 w.pledgor.booked w.secured.issued y.booked_counted x.issued_counted (a.there_all e);
      back_all = λ e. counted_same 1 w.secured.booked w.pledgor.issued x.booked_counted y.issued_counted (a.back_all e);
      there_counted = x.issued_counted;
      back_counted = y.issued_counted;
    }

lower : (a : ℕ) → within 1 (last_number + 1) a ≡ true → 1 ≤ a
lower a e = grind arith

-- a frame that its sender issued and may acknowledge by, once it can be sent
said : {St : Type 0} (s : Side St) (u : Frame Message) → Counted 1 s.issued → CanBeSent u → Carries (messages s.issued) u → Upto s.plain.kept.expected u → Said s (packet_of u)
said s (law.message n a m) c y k l = (
  (k.0, rw (k.1, ← one-add k.0) (counted_at 1 s.issued k.0 m c k.2)),
  lower a y.1,
  l,
)
said s (law.alone a) c y k l = (lower a y, l)

all_said : {St : Type 0} (s : Side St) (us : List (Frame Message)) (ws : List (List ℕ)) → ws ≡ map bytes_of us → Counted 1 s.issued → All CanBeSent us →
    All (Carries (messages s.issued)) us → All (Upto s.plain.kept.expected) us → All (TellsOf s) ws
all_said s us ws e c y k l = All-same (TellsOf s) ws (map bytes_of us) e (All-map (TellsOf s) bytes_of us
    (λ i d h. let u = get_or us i d in (packet_of u, (refl, y i d h), said s u c (y i d h) (k i d h) (l i d h))))

pub waiting : (C St : Type 0) → WaitingFramesAreTrue C St
waiting C St app s p w r =
    let h = shadow r in
    let f = frames_true Message C St app s p (world_of w h.there h.back) h.reached in (
      all_said w.secured h.there w.forth.waiting h.there_waits.bytes h.secured_tidy.issued_counted h.there_waits.sent f.there_true.carried f.there_true.acknowledged,
      all_said w.pledgor h.back w.back.waiting h.back_waits.bytes h.pledgor_tidy.issued_counted h.back_waits.sent f.back_true.carried f.back_true.acknowledged,
    )

ranged_given : {St : Type 0} {a b : law.End Message St} {fw bw c : law.Chan Message} (x : Option (Frame Message)) → Both a b fw bw → law.Collected bw x c → IfSome x (Upto (law.next a))
ranged_given None h t = tt
ranged_given (Some f) h t = in_range h t

module _ {C St : Type 0} (app : App Message C St) where
  -- what is collected reads, and its acknowledgement is in range
  misfits : (p : Plain St) (q : Plain St) (b : Collected) (x : Option (Frame Message)) → IfSome x CanBeSent → IfSome x (Upto (next_of p.kept)) → HeardFrame app p (option_map bytes_of x) b q →
      IfErr b (λ e. number_of e ≡ 5)
  misfits p q b None g l d = rw d.0 tt
  misfits p q b (Some u) g l d = rw (heard_so app p u g d).0 (refuses_misfits app p (told_frame app p u) l)

  misfit_turn : {s s' : Side St} {b : law.End Message St} {fw : law.Chan Message} {i i' o o' : Means} {r : Turned} (xs : List (Frame Message)) → Waits i xs → Both (side_of s) b fw (chan_of xs i) →
      Turn app s i o r s' i' o' → MisfitsAlone r
  misfit_turn xs f v (turn {p = p} {q = q} {i = i} {i' = i'} {r = r} t) =
      let a = collect_lift i i' t.collects.frame xs f.bytes t.collects.gathers in
      let k = all_collected CanBeSent a.does f.sent in
      misfits p q r.collected a.x k.0 (ranged_given a.x v a.does) (rw (← a.told) t.collects.hears)

pub unbroken : (C St : Type 0) → NoTurnMeetsABrokenFrame C St
unbroken C St app s p w r =
    let h = shadow r in
    let v = inv h.reached in
    (λ a e i o t. misfit_turn app h.back h.back_waits v t, λ a e i o t. misfit_turn app h.there h.there_waits (swap v) t)

-- the same relation, whether the booked entries or their messages are counted
pub fitting_bytes : {C St : Type 0} (app : App Message C St) (w : World St) (xs ys : List (Frame Message)) → over.Fitting app (world_of w xs ys) → Fitting app w
fitting_bytes app w xs ys f = record {
  there_fits = λ m a. f.there_fits m (rw (length_messages w.pledgor.booked) a);
  back_fits = λ m a. f.back_fits m (rw (length_messages w.secured.booked) a);
}

-- for any relation, also one that is no test
pub related : {C St : Type 0} (app : App Message C St) (J : St → St → List Message → List Message → Type 0) (s p : St) → Joint app J → J s p [] [] → (w : World St) → Reached app s p w →
    Between J w.secured w.pledgor × Fitting app w
related app J s p j h w r =
    let x = shadow r in
    let b = between J j h x.reached in
    let f = fitting J j (world_of w x.there x.back) b in
    (rw (← length_messages w.pledgor.booked, ← length_messages w.secured.booked) b, fitting_bytes app w x.there x.back f)

pub joins : (C St : Type 0) → QueuesKeepARelation C St
joins C St app j s p k h w r = related app (λ a b xs ys. T (j a b xs ys)) s p k h w r
