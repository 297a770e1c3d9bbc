-- The words for the kinds of jumps.
use Rattle.std.specs.Prelude.{ℕ, List, codes}
use Rattle.rc_tree.specs.Model.{ReactiveTerminalTargetKind}
use Rattle.rc_tree.specs.declared.kind.ReactiveTerminalTargetKind.TheVariants.{Implicit, Labeled, Unlabeled}

-- the word for a kind
abbrev pub kind_word : ReactiveTerminalTargetKind → List ℕ
kind_word Implicit = codes "implicit"
kind_word Labeled = codes "labeled"
kind_word Unlabeled = codes "unlabeled"
