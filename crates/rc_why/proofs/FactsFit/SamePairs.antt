-- Inputs that are the same are the same pairs.
use Rattle.std.proofs.Common.{◌≡◌, ◌∙◌, true, List, [], ◌∷◌, All, Contains, ap, get_or, map, refl, subst, sym}
use Rattle.std.proofs.lemmas.List.{length-map}
use Rattle.std.proofs.lemmas.List.Elements.{All-map, Contains-get_or}
use Rattle.rc_hir.specs.Model.{DeclarationEntry, Environment, ReactiveScopeDependency}
use Rattle.rc_tree.proofs.ListedOnce.{into_map}
use Rattle.rc_merge.proofs.Elements.{Subset, contains_in, in_contains}
use Rattle.rc_merge.proofs.SameInputsLemmas.{have_same, same_inputs_equivalence}
use Rattle.rc_merge.proofs.SameLemmas.{same_covers}
use Rattle.rc_merge.specs.Explained.{pair_of, pairs_of}
use Rattle.rc_merge.specs.Inputs.{Input, as_inputs, inputs_of, same_inputs}
use Rattle.rc_merge.specs.Joining.{declared_name}
use Rattle.rc_merge.specs.declared.facts.DepPair.{DepPair}
use Rattle.rc_why.specs.Pairs.{HaveSamePairs, whole}

-- the pair of an input
abbrev pair : Input → DepPair
pair input = record { declaration = input.declaration; path = input.path }

-- the pairs of inputs
abbrev pairs : List Input → List DepPair
pairs inputs = map pair inputs

covered : (inputs others : List Input) → Subset inputs others → All (Contains (pairs others)) (pairs inputs)
covered inputs others within = All-map (Contains (pairs others)) pair inputs (λ place other below.
    let input = get_or inputs place other in
    into_map pair others input (contains_in others input
    (within input (in_contains inputs input (Contains-get_or inputs place other below)))))

same_pairs : (inputs others : List Input) → same_inputs inputs others ≡ true
    → HaveSamePairs (pairs inputs) (pairs others)
same_pairs inputs others same =
    let back = same_inputs_equivalence.symm others inputs ∙ same in
    record {
      as_long = length-map inputs pair ∙ (have_same inputs others same).lengths ∙ sym (length-map others pair);
      among = covered inputs others (same_covers others inputs back);
      back = covered others inputs (same_covers inputs others same);
    }

module _ (env : Environment) where
  -- the pairs of dependencies, and of declared values, are those of the inputs
  of_dependencies : (dependencies : List ReactiveScopeDependency)
      → pairs (inputs_of env dependencies) ≡ pairs_of env dependencies
  of_dependencies [] = refl
  of_dependencies (dependency ∷ dependencies) =
      ap (λ rest. pair_of env dependency ∷ rest) (of_dependencies dependencies)

  of_declared : (entries : List DeclarationEntry)
      → pairs (as_inputs env entries) ≡ map whole (map (declared_name env) entries)
  of_declared [] = refl
  of_declared (entry ∷ entries) = ap (λ rest. whole (declared_name env entry) ∷ rest) (of_declared entries)

  -- two lists of dependencies that are the same inputs are the same pairs
  pub same_dependencies : (dependencies others : List ReactiveScopeDependency)
      → same_inputs (inputs_of env dependencies) (inputs_of env others) ≡ true
      → HaveSamePairs (pairs_of env dependencies) (pairs_of env others)
  same_dependencies dependencies others same =
      subst (λ a. HaveSamePairs a (pairs_of env others)) (of_dependencies dependencies)
      (subst (HaveSamePairs (pairs (inputs_of env dependencies))) (of_dependencies others)
      (same_pairs (inputs_of env dependencies) (inputs_of env others) same))

  -- and so are declared values and dependencies
  pub same_declared : (entries : List DeclarationEntry) (dependencies : List ReactiveScopeDependency)
      → same_inputs (as_inputs env entries) (inputs_of env dependencies) ≡ true
      → HaveSamePairs (map whole (map (declared_name env) entries)) (pairs_of env dependencies)
  same_declared entries dependencies same =
      subst (λ a. HaveSamePairs a (pairs_of env dependencies)) (of_declared entries)
      (subst (HaveSamePairs (pairs (as_inputs env entries))) (of_dependencies dependencies)
      (same_pairs (as_inputs env entries) (inputs_of env dependencies) same))

-- the same the other way round
pub turned : (some others : List DepPair) → HaveSamePairs some others → HaveSamePairs others some
turned some others same = record { as_long = sym same.as_long; among = same.back; back = same.among }
