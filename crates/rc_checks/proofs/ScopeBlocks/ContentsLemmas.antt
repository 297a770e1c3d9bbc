-- The `Return`s and scope blocks of parts of a tree, together: what two parts have, and the scopes of the blocks.
use Rattle.std.proofs.Common.{◌≡◌, ◌∙◌, List, [], ◌∷◌, ◌++◌, append_assoc, refl, sym}
use Rattle.std.proofs.Math.Bool.{or-false, or_assoc}
use Rattle.std.proofs.lemmas.List.{append-nil, map-append}
use Rattle.rc_names.specs.Numbers.{ScopeId}
use Rattle.rc_tree.proofs.CollectedRelated.{RelatedParts, collected_related}
use Rattle.rc_tree.specs.inside.JoiningLaws.{IsMonoid}
use Rattle.rc_tree.specs.Model.{ReactiveBlock}
use Rattle.rc_tree.specs.ScopesIn.{scope_parts, scopes_in}
use Rattle.rc_checks.specs.ScopeBlocks.{Contents, ScopeBlock, contents, contents_of_parts, scopes_of}

pub contents_monoid : IsMonoid contents_of_parts.joining
contents_monoid = record {
  before = λ x. refl;
  behind = λ x. λ i. record { returns = or-false x.returns i; blocks = append-nil x.blocks i };
  associative = λ x y z. λ i. record {
    returns = or_assoc x.returns y.returns z.returns i;
    blocks = append_assoc x.blocks y.blocks z.blocks i;
  };
}

-- the scopes of a part are those of its scope blocks
abbrev SameScopes : List ScopeId → Contents → Type 0
SameScopes scopes part = scopes ≡ scopes_of part

same_parts : RelatedParts SameScopes scope_parts contents_of_parts
same_parts = record {
  joined = record {
    nothing = refl;
    both = λ x x1 y y1 e f.
        let both : x ++ x1 ≡ scopes_of y ++ scopes_of y1 = λ i. e i ++ f i in
        both ∙ sym (map-append (λ (block : ScopeBlock). block.scope) y.blocks y1.blocks);
  };
  row = λ x. refl;
  value = λ id x. refl;
  place = λ id x. refl;
  returned = λ id x. refl;
  jump = λ target. refl;
  label = λ label. refl;
  scope = λ scope x y e.
      let last : ScopeBlock = record { scope = scope; returns = y.returns } in
      (λ i. e i ++ scope ∷ []) ∙ sym (map-append (λ (block : ScopeBlock). block.scope) y.blocks (last ∷ []));
  pruned_scope = λ scope x y e. e;
}

pub same_scopes : (x : ReactiveBlock) → scopes_in x ≡ scopes_of (contents x)
same_scopes = collected_related SameScopes scope_parts contents_of_parts same_parts
