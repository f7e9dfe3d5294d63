-- What is read from a scenario's lines.
use Rattle.std.specs.Prelude.{◌≡◌, ◌≢◌, ◌==◌, ◌&&◌, ◌++◌, cond, nat_le, length, ℕ, ℤ, List, [], codes, decimal, Option, None, Some, Result, Ok, Err}
use Rattle.std.specs.List.{find, slice_range}
use Rattle.scenario.specs.declared.directive.PanelLine.{PanelLine}
use Rattle.scenario.specs.declared.directive.Source.{Source}
use Rattle.scenario.specs.declared.directive.Source.TheVariants.{Sheet, Panel}
use Rattle.scenario.specs.declared.directive.Step.{Step}
use Rattle.scenario.specs.declared.directive.Step.TheVariants.{Notify, Resolve, Confirm, Reply, Answer, Deliver, Substitute, Ask, Release, BookAtSecured, BookAtPledgor, Show}
use Rattle.scenario.specs.declared.directive.UnknownSource.{UnknownSource}

-- a panel's quotes, from its first place up to its last; none without a panel
abbrev pub quotes_of : List ℤ → Option PanelLine → List ℤ
quotes_of quotes None = []
quotes_of quotes (Some panel) = cond (nat_le panel.from panel.to && nat_le panel.to (length quotes)) (slice_range quotes panel.from panel.to) []

abbrev pub first_panel : ℕ → List PanelLine → Option PanelLine
first_panel day = find (λ panel. panel.day == day)

abbrev pub source_word : Source → List ℕ
source_word Sheet = codes "sheet"
source_word Panel = codes "panel"

-- the line that says a step
abbrev pub step_line : Step → List ℕ
step_line (Notify day) = codes "notify " ++ decimal day
step_line (Resolve source) = codes "resolve " ++ source_word source
step_line Confirm = codes "confirm"
step_line (Reply lot) = codes "reply " ++ decimal lot
step_line Answer = codes "answer"
step_line (Deliver lot) = codes "deliver " ++ decimal lot
step_line (Substitute new old) = codes "substitute " ++ decimal new ++ codes " " ++ decimal old
step_line (Ask lot) = codes "ask " ++ decimal lot
step_line Release = codes "release"
step_line BookAtSecured = codes "book secured"
step_line BookAtPledgor = codes "book pledgor"
step_line Show = codes "show"

-- a word is read as the source whose word it is, and refused where it is the word of none
abbrev pub SourceRead : List ℕ → Result Source UnknownSource → Type 0
SourceRead word (Ok source) = word ≡ source_word source
SourceRead word (Err e) = (source : Source) → word ≢ source_word source
