-- Runs of two ends and the two carriers of bytes between them.
use Rattle.std.specs.Prelude.{ℕ, ◌+◌, ◌≤◌, max, Some, None, Ok, Err, Option, List, [], ◌∷◌, ◌++◌}
use Rattle.message.specs.declared.Message.{Message}
use Rattle.carrier.specs.Means.{Means}
use Rattle.law.specs.Link.{App, Ends, Times}
use Rattle.link.specs.declared.turned.Received.{Received}
use Rattle.link.specs.declared.turned.Received.TheVariants as received
use Rattle.link.specs.declared.turned.Turned.{Turned}
use Rattle.runs.specs.Turns.{Collected, Entry, Plain, Turns, called, plainly}

-- an end, with what its calls issued and what its turns booked, in order of time, by the answers
pub record Side (St : Type 0) : Type 0 where
  pub plain : Plain St
  pub issued : List Entry
  pub booked : List Entry

abbrev pub fresh : {St : Type 0} → St → Side St
fresh s = record { plain = plainly s; issued = []; booked = [] }

-- what was issued, with what a call issues, if it is not refused
abbrev pub sent : List Entry → Option Entry → List Entry
sent is None = is
sent is (Some e) = is ++ (e ∷ [])

-- what was booked, with what is received
abbrev pub entered : List Entry → Received → List Entry
entered bs received.Acknowledgement = bs
entered bs (received.Booked n m) = bs ++ (record { number = n; message = m } ∷ [])
entered bs (received.Repeat n) = bs
entered bs (received.Early n) = bs

-- what was booked, with what a turn books
abbrev pub noted : List Entry → Collected → List Entry
noted bs (Err e) = bs
noted bs (Ok None) = bs
noted bs (Ok (Some r)) = entered bs r

-- an end after a call, refused or not
abbrev pub calling : {C St : Type 0} → App Message C St → C → Side St → Side St
calling app c s = record { plain = (called app c s.plain).after; issued = sent s.issued (called app c s.plain).answer; booked = s.booked }

-- a turn of an end, with its incoming and its outgoing carrier, and its answer
pub data Turn {C St : Type 0} (app : App Message C St) : Side St → Means → Means → Turned → Side St → Means → Means → Type 0 where
  turn : {p q : Plain St} {is bs : List Entry} {i i' o o' : Means} {r : Turned} → Turns app p i o r q i' o' →
      Turn app (record { plain = p; issued = is; booked = bs }) i o r (record { plain = q; issued = is; booked = noted bs r.collected }) i' o'

-- two ends and the carriers between them
abbrev pub World : Type 0 → Type 0
World St = Ends (Side St) Means

-- a step of a run: a call, refused or not, or a turn
pub data Step {C St : Type 0} (app : App Message C St) : World St → World St → Type 0 where
  secured_calls : {s p : Side St} {a b : Means} (c : C) →
      Step app (record { secured = s; pledgor = p; forth = a; back = b }) (record { secured = calling app c s; pledgor = p; forth = a; back = b })
  pledgor_calls : {s p : Side St} {a b : Means} (c : C) →
      Step app (record { secured = s; pledgor = p; forth = a; back = b }) (record { secured = s; pledgor = calling app c p; forth = a; back = b })
  secured_turns : {s s' p : Side St} {a a' b b' : Means} {r : Turned} → Turn app s b a r s' b' a' →
      Step app (record { secured = s; pledgor = p; forth = a; back = b }) (record { secured = s'; pledgor = p; forth = a'; back = b' })
  pledgor_turns : {s p p' : Side St} {a a' b b' : Means} {r : Turned} → Turn app p a b r p' a' b' →
      Step app (record { secured = s; pledgor = p; forth = a; back = b }) (record { secured = s; pledgor = p'; forth = a'; back = b' })

-- a carrier in which nothing waits
abbrev pub empty : ℕ → ℕ → Means
empty p f = record { waiting = []; places = p; faults = f }

-- the worlds that a run reaches: any list of steps from two fresh ends and two empty carriers of any places and faults
pub data Reached {C St : Type 0} (app : App Message C St) (s p : St) : World St → Type 0 where
  began : {i j f g : ℕ} → 1 ≤ i → 1 ≤ j → Reached app s p (record { secured = fresh s; pledgor = fresh p; forth = empty i f; back = empty j g })
  stepped : {w v : World St} → Reached app s p w → Step app w v → Reached app s p v

-- a round: a turn of the secured end, then one of the pledgor end
pub data Round {C St : Type 0} (app : App Message C St) : World St → World St → Type 0 where
  round : {s s' p p' : Side St} {a a' a'' b b' b'' : Means} {r q : Turned} → Turn app s b a r s' b' a' → Turn app p a' b' q p' a'' b'' →
      Round app (record { secured = s; pledgor = p; forth = a; back = b }) (record { secured = s'; pledgor = p'; forth = a''; back = b'' })

-- so many rounds
abbrev pub Rounds : {C St : Type 0} → App Message C St → ℕ → World St → World St → Type 0
Rounds app = Times (Round app)

-- the faults left in both carriers
abbrev pub faults_of : {St : Type 0} → World St → ℕ
faults_of w = w.forth.faults + w.back.faults

-- the larger number of places
abbrev pub places_of : {St : Type 0} → World St → ℕ
places_of w = max w.forth.places w.back.places
