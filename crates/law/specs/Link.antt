-- Two ends of a numbered link over two faulty channels: what a call and a turn may do, and the worlds that a run reaches.
-- Frames are abstract, and so are the messages and the book above the link.
use Rattle.std.specs.Prelude.{◌≡◌, ℕ, suc, ◌+◌, ◌-◌, ◌<◌, ◌≤◌, Bool, T, ◌≢◌, Some, None, Option, List, [], ◌∷◌, ◌++◌, length, drop}

-- how many messages may be unacknowledged
abbrev pub window : ℕ
window = 8

-- the last number that a message is given
abbrev pub last_number : ℕ
last_number = 1000000

-- a relation so many times, one after another
pub data Times {A : Type 0} (R : A → A → Type 0) : ℕ → A → A → Type 0 where
  done : {x : A} → Times R 0 x x
  again : {n : ℕ} {x y z : A} → R x y → Times R n y z → Times R (suc n) x z

-- a frame: a message with its number and an acknowledgement, or an acknowledgement alone
pub data Frame (M : Type 0) : Type 0 where
  message : ℕ → ℕ → M → Frame M
  alone : ℕ → Frame M

-- the acknowledgement that a frame carries
abbrev pub ack_of : {M : Type 0} → Frame M → ℕ
ack_of (message n k m) = k
ack_of (alone k) = k

-- what a channel means: the waiting frames, the places, the faults left
pub record Chan (M : Type 0) : Type 0 where
  pub waiting : List (Frame M)
  pub places : ℕ
  pub faults : ℕ

-- Takes x xs ys: ys is xs without one x that stands somewhere in it
pub data Takes {A : Type 0} (x : A) : List A → List A → Type 0 where
  here : {xs : List A} → Takes x (x ∷ xs) xs
  there : {y : A} {xs ys : List A} → Takes x xs ys → Takes x (y ∷ xs) (y ∷ ys)

-- one fault act: a waiting frame is lost, is copied to anywhere while a place is free, or is moved
pub data Act {A : Type 0} (places : ℕ) : List A → List A → Type 0 where
  lose : {x : A} {ws rest : List A} → Takes x ws rest → Act places ws rest
  copy : {x : A} {ws rest more : List A} → Takes x ws rest → length ws < places → Takes x more ws → Act places ws more
  move : {x : A} {ws rest moved : List A} → Takes x ws rest → Takes x moved rest → Act places ws moved

-- so many acts, one after another
abbrev pub Acts : {A : Type 0} → ℕ → ℕ → List A → List A → Type 0
Acts places = Times (Act places)

-- some acts, with the faults left falling by at least their number
pub data Faulted {M : Type 0} : Chan M → Chan M → Type 0 where
  faulted :
      {p n f g : ℕ} {ws vs : List (Frame M)} → Acts p n ws vs → g + n ≤ f →
      Faulted (record { waiting = ws; places = p; faults = f }) (record { waiting = vs; places = p; faults = g })

-- a post: the channel is full and nothing changes, or the frame joins the end and acts follow
pub data Posted {M : Type 0} (f : Frame M) : Chan M → Chan M → Type 0 where
  full : {c : Chan M} → length c.waiting ≡ c.places → Posted f c c
  joined :
      {c d : Chan M} → length c.waiting < c.places →
      Faulted (record { waiting = c.waiting ++ (f ∷ []); places = c.places; faults = c.faults }) d → Posted f c d

-- a collect: acts come first, then the first frame leaves, if one waits
pub data Collected {M : Type 0} : Chan M → Option (Frame M) → Chan M → Type 0 where
  nothing : {c : Chan M} {p g : ℕ} → Faulted c (record { waiting = []; places = p; faults = g }) →
      Collected c None (record { waiting = []; places = p; faults = g })
  first : {c : Chan M} {f : Frame M} {ws : List (Frame M)} {p g : ℕ} → Faulted c (record { waiting = f ∷ ws; places = p; faults = g }) →
      Collected c (Some f) (record { waiting = ws; places = p; faults = g })

-- the book above the link: which message fits a state, what booking it does to the state, and the message that a call drafts, with the state after it (None where the call is refused)
pub record App (M C St : Type 0) : Type 0 where
  pub fits : St → M → Bool
  pub books : St → M → St
  pub drafts : St → C → Option (M × St)

-- an end: the state of its book, the lowest unacknowledged number, the unacknowledged messages from it on, the number expected of the other end,
-- and all that was issued and booked, in order of time
pub record End (M St : Type 0) : Type 0 where
  pub state : St
  pub base : ℕ
  pub pending : List M
  pub expected : ℕ
  pub issued : List M
  pub booked : List M

-- an end that nothing has happened to
abbrev pub fresh : {M St : Type 0} → St → End M St
fresh s = record { state = s; base = 1; pending = []; expected = 1; issued = []; booked = [] }

-- the number of the next message
abbrev pub next : {M St : Type 0} → End M St → ℕ
next e = e.base + length e.pending

-- every number below k is acknowledged
abbrev pub clear : {M St : Type 0} → ℕ → End M St → End M St
clear k e = record { state = e.state; base = e.base + (k - e.base); pending = drop (k - e.base) e.pending; expected = e.expected; issued = e.issued; booked = e.booked }

-- the expected message is booked
abbrev pub book : {M C St : Type 0} → App M C St → M → End M St → End M St
book app m e = record { state = app.books e.state m; base = e.base; pending = e.pending; expected = suc e.expected; issued = e.issued; booked = e.booked ++ (m ∷ []) }

-- the oldest unacknowledged message, or else an acknowledgement alone
abbrev pub oldest : {M : Type 0} → ℕ → ℕ → List M → Frame M
oldest b x [] = alone x
oldest b x (m ∷ ms) = message b x m

-- what an end posts
abbrev pub offer : {M St : Type 0} → End M St → Frame M
offer e = oldest e.base e.expected e.pending

-- a call that issues: at most a window of messages are unacknowledged, and no number is above the last
pub data Issued {M C St : Type 0} (app : App M C St) : End M St → End M St → Type 0 where
  issue : {e : End M St} {s : St} (c : C) (m : M) → length e.pending < window → next e ≤ last_number → app.drafts e.state c ≡ Some (m, s) →
      Issued app e (record { state = s; base = e.base; pending = e.pending ++ (m ∷ []); expected = e.expected; issued = e.issued ++ (m ∷ []); booked = e.booked })

-- what a collected frame does to an end
pub data Heard {M C St : Type 0} (app : App M C St) : End M St → Option (Frame M) → End M St → Type 0 where
  silent : {e : End M St} → Heard app e None e
  declined : {e : End M St} {f : Frame M} → next e < ack_of f → Heard app e (Some f) e
  acknowledged : {e : End M St} {k : ℕ} → k ≤ next e → Heard app e (Some (alone k)) (clear k e)
  accepted : {e : End M St} {n k : ℕ} {m : M} → k ≤ next e → n ≡ e.expected → T (app.fits e.state m) → Heard app e (Some (message n k m)) (book app m (clear k e))
  misfit : {e : End M St} {n k : ℕ} {m : M} → k ≤ next e → n ≡ e.expected → ¬ T (app.fits e.state m) → Heard app e (Some (message n k m)) e
  dropped : {e : End M St} {n k : ℕ} {m : M} → k ≤ next e → n ≢ e.expected → Heard app e (Some (message n k m)) (clear k e)

-- a turn of an end, with its incoming and its outgoing channel
pub data Turn {M C St : Type 0} (app : App M C St) : End M St → Chan M → Chan M → End M St → Chan M → Chan M → Type 0 where
  turn : {e e' : End M St} {i i' o o' : Chan M} {x : Option (Frame M)} →
      Collected i x i' → Heard app e x e' → Posted (offer e') o o' → Turn app e i o e' i' o'

-- two ends, and what carries frames to the pledgor end and back
pub record Ends (E C : Type 0) : Type 0 where
  pub secured : E
  pub pledgor : E
  pub forth : C
  pub back : C

-- two ends and the channels between them
abbrev pub World : (M St : Type 0) → Type 0
World M St = Ends (End M St) (Chan M)

-- a step of a run: a refused call, a call that issues, or a turn
pub data Step {M C St : Type 0} (app : App M C St) : World M St → World M St → Type 0 where
  refuses : {w : World M St} → Step app w w
  secured_issues : {s s' p : End M St} {a b : Chan M} → Issued app s s' →
      Step app (record { secured = s; pledgor = p; forth = a; back = b }) (record { secured = s'; pledgor = p; forth = a; back = b })
  pledgor_issues : {s p p' : End M St} {a b : Chan M} → Issued app p p' →
      Step app (record { secured = s; pledgor = p; forth = a; back = b }) (record { secured = s; pledgor = p'; forth = a; back = b })
  secured_turns : {s s' p : End M St} {a a' b b' : Chan M} → Turn app s b a s' b' a' →
      Step app (record { secured = s; pledgor = p; forth = a; back = b }) (record { secured = s'; pledgor = p; forth = a'; back = b' })
  pledgor_turns : {s p p' : End M St} {a a' b b' : Chan M} → Turn app p a b p' a' b' →
      Step app (record { secured = s; pledgor = p; forth = a; back = b }) (record { secured = s; pledgor = p'; forth = a'; back = b' })

-- a channel in which nothing waits
abbrev pub empty : {M : Type 0} → ℕ → ℕ → Chan M
empty p f = record { waiting = []; places = p; faults = f }

-- the worlds that a run reaches: any list of steps from two fresh ends and two empty channels
pub data Reached {M C St : Type 0} (app : App M C St) (s p : St) : World M St → Type 0 where
  opened : {i j f g : ℕ} → 1 ≤ i → 1 ≤ j → Reached app s p (record { secured = fresh s; pledgor = fresh p; forth = empty i f; back = empty j g })
  stepped : {w v : World M St} → Reached app s p w → Step app w v → Reached app s p v

-- a round: a turn of the secured end, then one of the pledgor end
pub data Round {M C St : Type 0} (app : App M C St) : World M St → World M St → Type 0 where
  round : {s s' p p' : End M St} {a a' a'' b b' b'' : Chan M} → Turn app s b a s' b' a' → Turn app p a' b' p' a'' b'' →
      Round app (record { secured = s; pledgor = p; forth = a; back = b }) (record { secured = s'; pledgor = p'; forth = a''; back = b'' })

-- so many rounds
abbrev pub Rounds : {M C St : Type 0} → App M C St → ℕ → World M St → World M St → Type 0
Rounds app = Times (Round app)
