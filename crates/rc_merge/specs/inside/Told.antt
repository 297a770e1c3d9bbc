-- The facts of a scope that joins a head, as they are computed.
use Rattle.std.specs.Prelude.{Bool, true, false, List, [], ◌∷◌, Option, None, Some, map, nat_lt, if◌then◌else◌}
use Rattle.std.specs.List.{filter_map}
use Rattle.rc_hir.specs.Model.{Environment, ReactiveScope}
use Rattle.rc_merge.specs.Explained.{Joined, condition_of, pairs_of, source_in}
use Rattle.rc_merge.specs.Joining.{Copies, declared_name, depends_on_outputs, shares_inputs, takes_outputs}
use Rattle.rc_merge.specs.LastUses.{LastUses}
use Rattle.rc_merge.specs.declared.facts.MergeCondition.{MergeCondition}
use Rattle.rc_merge.specs.declared.facts.MergeCondition.TheVariants.{Same, Outputs, Sources}
use Rattle.rc_merge.specs.declared.facts.MergedFacts.{MergedFacts}
use Rattle.rc_merge.specs.declared.facts.NotedUse.{NotedUse}
use Rattle.rc_names.specs.Numbers.{DeclarationId, same_id}

-- names by rising number with one more
abbrev pub with_number : DeclarationId → List DeclarationId → List DeclarationId
with_number name [] = name ∷ []
with_number name (first ∷ rest) =
    if nat_lt name.0 first.0 then name ∷ first ∷ rest
    else (if same_id name first then first ∷ rest else first ∷ with_number name rest)

-- the names by rising number, each once
abbrev pub by_number : List DeclarationId → List DeclarationId
by_number [] = []
by_number (name ∷ names) = with_number name (by_number names)

-- the first of the three conditions that holds, if one does
abbrev pub condition_if : Bool → Bool → Bool → Option MergeCondition
condition_if true takes depends = Some Same
condition_if false true depends = Some Outputs
condition_if false false true = Some Sources
condition_if false false false = None

abbrev pub noted_use : LastUses → DeclarationId → NotedUse
noted_use uses name = record { declaration = name; last = uses name }

-- the names by rising number, each once and with its last use
abbrev pub noted_uses : LastUses → List DeclarationId → List NotedUse
noted_uses uses names = map (noted_use uses) (by_number names)

module _ (env : Environment) where
  abbrev pub first_condition : Copies → ReactiveScope → ReactiveScope → Option MergeCondition
  first_condition copies head next = condition_if (shares_inputs env head next) (takes_outputs env head next)
      (depends_on_outputs env copies head next)

  -- under the third condition, the outputs that the dependencies are or copy
  abbrev pub sources_by : MergeCondition → Joined → List DeclarationId
  sources_by Sources is = filter_map (source_in env is) is.next.own.dependencies
  sources_by _ is = []

  abbrev pub facts_of : LastUses → Joined → MergedFacts
  facts_of uses is = record {
    scope = is.next.number;
    into = is.head.number;
    condition = condition_of env is.head.own is.next.own;
    head = pairs_of env is.head.own.dependencies;
    outputs = map (declared_name env) is.head.own.declarations;
    next = pairs_of env is.next.own.dependencies;
    sources = sources_by (condition_of env is.head.own is.next.own) is;
    uses = noted_uses uses is.names;
    end = is.next.own.range.end;
  }
