-- A relay by the meanings of its two carriers, and what holds of every relay.
use Rattle.std.specs.Prelude.{◌≡◌, ℕ, ◌≤◌, List, [], ◌∷◌, ◌++◌, length, take, Some, None, Ok, Err, Option, Result}
use Rattle.refusal.specs.declared.Refusal.{Refusal}
use Rattle.refusal.specs.Numbers.{number_of}
use Rattle.carrier.specs.Means.{Means, Sound}
use Rattle.carrier.specs.Rules.{Collected, Posted}
use Rattle.relay.specs.declared.Passed.{Passed}

-- what is collected from the one is posted to the other
abbrev pub Relayed : Means → Means → List ℕ → Result (Option Passed) Refusal → Means → Means → List ℕ → Type 0
Relayed in₀ out₀ buffer (Err e) in₁ out₁ filled = Collected in₀ buffer (Err e) in₁ filled × (out₁ ≡ out₀)
Relayed in₀ out₀ buffer (Ok None) in₁ out₁ filled = Collected in₀ buffer (Ok None) in₁ filled × (out₁ ≡ out₀)
Relayed in₀ out₀ buffer (Ok (Some p)) in₁ out₁ filled = Collected in₀ buffer (Ok (Some p.length)) in₁ filled × Posted out₀ (take p.length filled) p.posted out₁

-- a frame of this length left the one carrier and joined the other
abbrev pub passed_on : ℕ → Result (Option Passed) Refusal
passed_on n = Ok (Some (record { length = n; posted = Ok tt }))

-- a frame of this length left the one carrier, and the other refused it
abbrev pub passed_and_refused : ℕ → Refusal → Result (Option Passed) Refusal
passed_and_refused n e = Ok (Some (record { length = n; posted = Err e }))

-- the first frame of one list goes to the end of another
pub record Went (in₀ out₀ in₁ out₁ : List (List ℕ)) : Type 0 where
  pub frame : List ℕ
  pub left : in₀ ≡ frame ∷ in₁
  pub joined : out₁ ≡ out₀ ++ (frame ∷ [])

-- without a fall of faults left a frame that moved is the first of the one and the last of the other
abbrev pub MovedWithoutAFall : Type 0
MovedWithoutAFall = (in₀ out₀ : Means) (buffer : List ℕ) (n : ℕ) (in₁ out₁ : Means) (filled : List ℕ) → Relayed in₀ out₀ buffer (passed_on n) in₁ out₁ filled → in₁.faults ≡ in₀.faults → out₁.faults ≡ out₀.faults → Went in₀.waiting out₀.waiting in₁.waiting out₁.waiting

-- a frame is kept only where the other carrier is full, which then is as it was
pub record WasFull (out₀ : Means) (number : ℕ) (out₁ : Means) : Type 0 where
  pub refused : number ≡ 7
  pub taken : out₀.places ≤ length out₀.waiting
  pub same : out₁ ≡ out₀

abbrev pub KeptOnlyWhenFull : Type 0
KeptOnlyWhenFull = (in₀ out₀ : Means) (buffer : List ℕ) (n : ℕ) (e : Refusal) (in₁ out₁ : Means) (filled : List ℕ) → Sound in₀ → Relayed in₀ out₀ buffer (passed_and_refused n e) in₁ out₁ filled → WasFull out₀ (number_of e) out₁

pub record RelaysStand : Type 0 where
  pub moved : MovedWithoutAFall
  pub kept : KeptOnlyWhenFull
