use Rattle.std.proofs.Common.{◌≡◌, ◌++◌, All}
use Rattle.std.specs.Map.{lookup}
use Rattle.rc_names.specs.Numbers.{same_id}
use Rattle.rc_tree.specs.declared.fate.Fate.TheVariants.{Kept}
use Rattle.rc_pipe.specs.Fates.{listed_scopes}
use Rattle.rc_pipe.specs.inside.ListedFates.{decided_or, scopes_of}
use Rattle.rc_pipe.proofs.fates.all_fates.Given as goal

abbrev pub invariant-loop-number : goal.invariant-loop-number
invariant-loop-number l = (listed_scopes l.fates ++ scopes_of l.number-iterator ≡ scopes_of l.numbers.keys)
    × All (λ entry. entry.fate ≡ decided_or (lookup (same_id entry.scope) l.decided) Kept) l.fates
