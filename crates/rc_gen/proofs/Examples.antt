-- The sizes of small generated documents, and where their scopes end.
use Rattle.std.proofs.Common.{◌≡◌, ℕ, List, [], ◌∷◌, length, map, refl}
use Rattle.rc_hir.specs.Model.{ReactiveScope}
use Rattle.rc_gen.specs.Generated.{generated_function, identifiers, scopes}

blocks : map (λ units. length (generated_function units).body.blocks) (1 ∷ (5 ∷ (7 ∷ []))) ≡ 3 ∷ (19 ∷ (25 ∷ []))
blocks = refl

rows : map (λ units. length (generated_function units).instructions) (1 ∷ (5 ∷ (7 ∷ []))) ≡ 3 ∷ (11 ∷ (14 ∷ []))
rows = refl

ends : map (λ (scope : ReactiveScope). scope.range.end.0) (scopes 5) ≡ 5 ∷ (8 ∷ (14 ∷ (20 ∷ (26 ∷ []))))
ends = refl

names : length (identifiers 5) ≡ 13
names = refl
