-- Whole values of declarations, as pairs.
use Rattle.std.proofs.Common.{◌≡◌, ◌∙◌, ◌<◌, Contains, List, ap, get_or, map, subst, sym}
use Rattle.std.proofs.lemmas.List.{get_or-map, length-map}
use Rattle.rc_names.specs.Numbers.{DeclarationId}
use Rattle.rc_why.specs.Pairs.{IsWhole, whole}
use Rattle.rc_merge.specs.declared.facts.DepPair.{DepPair}

-- a pair that is whole is the whole value of its declaration
is_its_whole : (pair : DepPair) → IsWhole pair → whole pair.declaration ≡ pair
is_its_whole pair is = λ i. record { declaration = pair.declaration; path = sym is i }

-- where its declaration is among some, it is one of their whole values
pub whole_among : (declarations : List DeclarationId) (pair : DepPair) → IsWhole pair
    → Contains declarations pair.declaration → Contains (map whole declarations) pair
whole_among declarations pair is among = (
  among.0,
  subst (λ n. among.0 < n) (sym (length-map declarations whole)) among.1,
  get_or-map whole declarations among.0 pair.declaration pair among.1 ∙ ap whole among.2 ∙ is_its_whole pair is,
)

-- and the converse
pub of_whole : (declarations : List DeclarationId) (pair : DepPair) → Contains (map whole declarations) pair
    → IsWhole pair × Contains declarations pair.declaration
of_whole declarations pair among =
    let within = subst (λ n. among.0 < n) (length-map declarations whole) among.1 in
    let is : whole (get_or declarations among.0 pair.declaration) ≡ pair =
    sym (get_or-map whole declarations among.0 pair.declaration pair within) ∙ among.2 in
    (sym (ap (λ p. p.path) is), (among.0, within, ap (λ p. p.declaration) is))
