-- What is taken from the front of a text: the text before, what was taken, and the text left behind it.
use Rattle.std.specs.Prelude.{◌≡◌, ◌≢◌, ℕ, ◌<◌, ◌++◌, ◌↔◌, List, codes, length, option_map, IsSome, MatchOption, Option, Some, None, Result}
use Rattle.std.specs.Borrow.{Bor, MutBor}
use Rattle.std.specs.Char.{is_not_whitespace, is_whitespace}
use Rattle.std.specs.List.{FoldsTo}
use Rattle.std.specs.Result.{result_ok}
use Rattle.std.specs.Str.{EmptyOrStartsWithPassing, NoCharPasses}

-- a word in white space: behind it more white space, or nothing
pub record FirstWord (text word left : List ℕ) : Type 0 where
  pub gap : List ℕ
  pub cut : text ≡ gap ++ (word ++ left)
  pub some : 0 < length word
  pub before : NoCharPasses is_not_whitespace gap
  pub within : NoCharPasses is_whitespace word
  pub behind : (more : List ℕ) × EmptyOrStartsWithPassing is_whitespace left more

-- the first word; none only in a text of white space, which stays
abbrev pub TakesWord : List ℕ → Option (Bor (List ℕ)) → List ℕ → Type 0
TakesWord text None left = (left ≡ text) × NoCharPasses is_not_whitespace text
TakesWord text (Some word) left = FirstWord text word.now left

-- what a word is read as; no word, as nothing
abbrev pub ReadAs : {A : Type 0} → (List ℕ → Option A → Type 0) → Option (Bor (List ℕ)) → Option A → Type 0
ReadAs reads None result = result ≡ None
ReadAs reads (Some word) result = reads word.now result

-- the first word is taken, and read
pub record Taken {A : Type 0} (reads : List ℕ → Option A → Type 0) (text : List ℕ) (result : Option A) (left : List ℕ) : Type 0 where
  pub word : Option (Bor (List ℕ))
  pub taken : TakesWord text word left
  pub read : ReadAs reads word result

-- as what parsing gives; nothing, where it gives an error
abbrev pub Parsed : {A E : Type 0} → (List ℕ → Result A E → Type 0) → List ℕ → Option A → Type 0
Parsed {A} {E} gives word result = (parsed : Result A E) × gives word parsed × (result ≡ result_ok parsed)

-- "-" as none, and else as a number
pub record OptionalRead {A E : Type 0} (gives : List ℕ → Result A E → Type 0) (word : List ℕ) (result : Option (Option A)) : Type 0 where
  pub none : word ≡ codes "-" → result ≡ Some None
  pub some : word ≢ codes "-" → (number : Option A) × Parsed gives word number × (result ≡ option_map Some number)

abbrev pub Number : {A E : Type 0} → (List ℕ → Result A E → Type 0) → List ℕ → Option A → List ℕ → Type 0
Number gives = Taken (Parsed gives)

abbrev pub Optional : {A E : Type 0} → (List ℕ → Result A E → Type 0) → List ℕ → Option (Option A) → List ℕ → Type 0
Optional gives = Taken (OptionalRead gives)

-- what a value is written as, "-" where there is none
abbrev pub dashed : {A : Type 0} → (A → Option (List ℕ)) → Option A → Option (List ℕ)
dashed writes None = Some (codes "-")
dashed writes (Some value) = writes value

-- something exactly where the first word is the one expected
abbrev pub Keyword : List ℕ → List ℕ → Option Unit → List ℕ → Type 0
Keyword expected = Taken (λ word result. IsSome result ↔ (word ≡ expected))

-- something exactly where no word is left
abbrev pub Ended : List ℕ → Option Unit → List ℕ → Type 0
Ended text result left = (word : Option (Bor (List ℕ))) × TakesWord text word left × (IsSome result ↔ (word ≡ None))

-- one thing after another: where the first is not there, nothing, and the second is not looked for
pub record Then {A B : Type 0} (first : List ℕ → Option A → List ℕ → Type 0) (second : A → List ℕ → Option B → List ℕ → Type 0) (text : List ℕ) (result : Option B) (left : List ℕ) : Type 0 where
  pub value : Option A
  pub between : List ℕ
  pub begins : first text value between
  pub goes_on : MatchOption value ((result ≡ None) × (left ≡ between)) (λ x. second x between result left)

-- with nothing more taken
pub record Gives {B : Type 0} (value : B) (text : List ℕ) (result : Option B) (left : List ℕ) : Type 0 where
  pub is : result ≡ Some value
  pub stays : left ≡ text

-- things of one kind, one after another: all of them, or nothing where one of the first n is not there
abbrev pub InARow : {A : Type 0} → (List ℕ → Option A → List ℕ → Type 0) → ℕ → List ℕ → Option (List A) → List ℕ → Type 0
InARow {A} reads n text None left =
    (xs : List A) × (between : List ℕ) × (length xs < n) × FoldsTo (λ s x t. reads s (Some x) t) text xs between × reads between None left
InARow reads n text (Some xs) left = (length xs ≡ n) × FoldsTo (λ s x t. reads s (Some x) t) text xs left

-- what a call at a text may answer, and leave
pub record Calls {A : Type 0} (call : MutBor (List ℕ) → Option A → MutBor (List ℕ) → Type 0) (text : List ℕ) (result : Option A) (left : List ℕ) : Type 0 where
  pub shown : MutBor (List ℕ)
  pub shows : shown.now ≡ text
  pub back : MutBor (List ℕ)
  pub met : call shown result back
  pub leaves : back.now ≡ left

-- n places, filled one after another; nothing, where one is not there
pub record Filled {A : Type 0} (reads : List ℕ → Option A → List ℕ → Type 0) (n : ℕ) (text : List ℕ) (result : Option Unit) (places : List A) (left : List ℕ) : Type 0 where
  pub in_a_row : MatchOption result (InARow reads n text None left) (λ _. InARow reads n text (Some places) left)
