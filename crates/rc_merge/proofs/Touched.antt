-- What renders speak of in a tree: its scope blocks and its copies, taken together.
use Rattle.std.proofs.Common.{◌≡◌, List, [], ◌∷◌, ◌++◌, refl, ap, subst, inl, inr}
use Rattle.rc_hir.specs.Model.{Environment}
use Rattle.rc_names.specs.Numbers.{ScopeId}
use Rattle.rc_merge.proofs.Elements.{In, Subset, here, in_append, in_left, in_right}
use Rattle.rc_merge.proofs.MergingFacts.{IsOfParts}
use Rattle.rc_merge.specs.Places.{Copy}
use Rattle.rc_merge.specs.Writes.{copies_in, copy_parts}
use Rattle.rc_tree.proofs.CollectedRelated.{collected_related}
use Rattle.rc_tree.proofs.JoiningLemmas.{lists_monoid}
use Rattle.rc_tree.specs.Collected.{Contributions, collected}
use Rattle.rc_tree.specs.Joining.{Joining}
use Rattle.rc_tree.specs.inside.JoiningLaws.{IsMonoid}
use Rattle.rc_tree.specs.ScopesIn.{scope_parts, scopes_in}
use Rattle.rc_tree.specs.Model.{ReactiveBlock}

pub record Touched : Type 0 where
  pub scopes : List ScopeId
  pub copies : List Copy

abbrev nothing_touched : Touched
nothing_touched = record { scopes = []; copies = [] }

abbrev pub touching : Joining Touched
touching = record {
  nothing = nothing_touched;
  both = λ x y. record { scopes = x.scopes ++ y.scopes; copies = x.copies ++ y.copies };
}

pub touched_monoid : IsMonoid touching
touched_monoid = record {
  before = λ x. refl;
  behind = λ x. λ i. record { scopes = lists_monoid.behind x.scopes i; copies = lists_monoid.behind x.copies i };
  associative = λ x y z. λ i. record {
    scopes = lists_monoid.associative x.scopes y.scopes z.scopes i;
    copies = lists_monoid.associative x.copies y.copies z.copies i;
  };
}

module _ (env : Environment) where
  abbrev pub touched_parts : Contributions Touched
  touched_parts = record {
    joining = touching;
    row = λ x. record { scopes = []; copies = (copy_parts env).row x };
    value = λ id x. nothing_touched;
    place = λ id x. nothing_touched;
    returned = λ id x. nothing_touched;
    jump = λ target. nothing_touched;
    label = λ label. nothing_touched;
    scope = λ of x. record { scopes = x.scopes ++ of ∷ []; copies = x.copies };
    pruned_scope = λ of x. x;
  }

  -- these are the scopes and the copies of the tree
  pub scopes_touched : (x : ReactiveBlock) → (collected touched_parts x).scopes ≡ scopes_in x
  scopes_touched = collected_related (λ (x : Touched) ys. x.scopes ≡ ys) touched_parts scope_parts (record {
    joined = record { nothing = refl; both = λ x x1 y y1 e f. λ i. e i ++ f i };
    row = λ x. refl;
    value = λ id x. refl;
    place = λ id x. refl;
    returned = λ id x. refl;
    jump = λ target. refl;
    label = λ label. refl;
    scope = λ of x y e. ap (λ ys. ys ++ of ∷ []) e;
    pruned_scope = λ of x y e. e;
  })

  pub copies_touched : (x : ReactiveBlock) → (collected touched_parts x).copies ≡ copies_in env x
  copies_touched = collected_related (λ (x : Touched) ys. x.copies ≡ ys) touched_parts (copy_parts env) (record {
    joined = record { nothing = refl; both = λ x x1 y y1 e f. λ i. e i ++ f i };
    row = λ x. refl;
    value = λ id x. refl;
    place = λ id x. refl;
    returned = λ id x. refl;
    jump = λ target. refl;
    label = λ label. refl;
    scope = λ of x y e. e;
    pruned_scope = λ of x y e. e;
  })

  -- what a part has is in the tree
  pub record IsIn (body : ReactiveBlock) (x : Touched) : Type 0 where
    pub scopes : Subset x.scopes (scopes_in body)
    pub copies : Subset x.copies (copies_in env body)

  pub all_in_itself : (body : ReactiveBlock) → IsIn body (collected touched_parts body)
  all_in_itself body = record {
    scopes = λ s m. subst (In s) (scopes_touched body) m;
    copies = λ c m. subst (In c) (copies_touched body) m;
  }

  module _ (body : ReactiveBlock) where
    pub scope_in : (of : ScopeId) (x : Touched) → IsIn body (touched_parts.scope of x) → In of (scopes_in body)
    scope_in of x k = k.scopes of (in_right x.scopes (of ∷ []) of here)

    pub of_parts : IsOfParts (IsIn body) touched_parts
    of_parts = record {
      nothing = record { scopes = λ s m. elim m [ ]; copies = λ c m. elim m [ ] };
      both = λ x y j k. record {
        scopes = λ s m. elim (in_append x.scopes y.scopes s m) [ inl n ↦ j.scopes s n | inr n ↦ k.scopes s n ];
        copies = λ c m. elim (in_append x.copies y.copies c m) [ inl n ↦ j.copies c n | inr n ↦ k.copies c n ];
      };
      first = λ x y k. record {
        scopes = λ s m. k.scopes s (in_left x.scopes y.scopes s m);
        copies = λ c m. k.copies c (in_left x.copies y.copies c m);
      };
      second = λ x y k. record {
        scopes = λ s m. k.scopes s (in_right x.scopes y.scopes s m);
        copies = λ c m. k.copies c (in_right x.copies y.copies c m);
      };
      inside = λ of x k. record {
        scopes = λ s m. k.scopes s (in_left x.scopes (of ∷ []) s m);
        copies = k.copies;
      };
      around = λ of x y k j. record {
        scopes = λ s m. elim (in_append y.scopes (of ∷ []) s m) [
          | inl n ↦ j.scopes s n
          | inr n ↦ k.scopes s (in_right x.scopes (of ∷ []) s n)
        ];
        copies = j.copies;
      };
      inside_pruned = λ of x k. k;
      around_pruned = λ of x y k j. j;
    }
