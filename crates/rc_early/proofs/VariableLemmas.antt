-- An identifier that is added and then gets a name that no source has.
use Rattle.std.proofs.Common.{◌≡◌, ◌∙◌, ◌++◌, ℕ, List, [], ◌∷◌, Option, None, Some, refl, ap, length, slice_get}
use Rattle.std.proofs.Common.{slice_set}
use Rattle.std.proofs.Math.Seq.{set-append_seam}
use Rattle.std.specs.Prelude.{codes, decimal}
use Rattle.rc_early.specs.Entries.{promoted, with_variable}
use Rattle.rc_hir.specs.Environment.{unnamed, with_identifier, with_type}
use Rattle.rc_hir.specs.Model.{Environment, Identifier}
use Rattle.rc_hir.specs.declared.environment.IdentifierName.TheVariants.{Promoted}
use Rattle.rc_names.specs.declared.span.Span.{Span}

last_of : {X : Type 0} (xs : List X) (x : X) → slice_get (xs ++ x ∷ []) (length xs) ≡ Some x
last_of [] x = refl
last_of (y ∷ xs) x = last_of xs x

module _ (span : Option Span) (env after : Environment) (is : after ≡ with_identifier span env) (id : ℕ)
    (at : id ≡ length env.identifiers) where
  abbrev last : Identifier
  last = unnamed (length env.identifiers) (length env.types) span

  found_last : slice_get after.identifiers id ≡ Some last
  found_last = ap (λ a. slice_get a.identifiers id) is ∙ ap (slice_get (env.identifiers ++ last ∷ [])) at
      ∙ last_of env.identifiers last

  pub has_last : {A : Type 0} → None ≡ slice_get after.identifiers id → A
  has_last none = let e : None ≡ Some last = none ∙ found_last in let no : ⊥ = cc in absurd no

  pub variable_added : (identifier : Identifier) (name : List ℕ) → Some identifier ≡ slice_get after.identifiers id
      → name ≡ codes "#t" ++ decimal (length env.identifiers)
      → record after {
        identifiers = slice_set after.identifiers id (record identifier { name = Some (Promoted name) });
      } ≡ with_variable span env
  variable_added identifier name found named =
      let e : Some identifier ≡ Some last = found ∙ found_last in
      let same : identifier ≡ last = cc in
      (λ i. record (is i) {
        identifiers = slice_set (is i).identifiers (at i) (record (same i) { name = Some (Promoted (named i)) });
      }) ∙ ap (λ xs. record (with_type env) { identifiers = xs })
      (set-append_seam env.identifiers last [] (promoted last))
