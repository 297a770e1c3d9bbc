-- What one more fact changes in the nodes.
use Rattle.std.proofs.Common.{◌≡◌, ◌∙◌, ◌++◌, Bool, true, false, List, [], ◌∷◌, Option, None, Some, ap, append-nil}
use Rattle.std.proofs.Common.{cond}
use Rattle.std.proofs.Common.{refl, subst, sym}
use Rattle.std.specs.Prelude.{◌||◌, filter_map}
use Rattle.std.specs.List.{list_any, cons_option, AllByRecursion, IsDistinct}
use Rattle.std.proofs.lemmas.List.{map-append}
use Rattle.std.proofs.lemmas.List.Elements.{filter_map-append}
use Rattle.indexmap.specs.IndexSet.{insert_key}
use Rattle.rc_names.proofs.NumbersLemmas.{ids_equivalence, same_id-eq}
use Rattle.rc_names.specs.Numbers.{DeclarationId, ScopeId, same_id}
use Rattle.rc_names.specs.declared.numbers.Id.{Id}
use Rattle.rc_memo.proofs.DistinctLemmas.{distinct_is, distinct_push}
use Rattle.rc_memo.proofs.LevelLaws.{stronger_associates, stronger_commutes}
use Rattle.rc_memo.specs.Facts.{Fact, GivesLevel, DependsOn, HasScope, NeedsNode, distinct, strongest, only_if}
use Rattle.rc_memo.specs.Facts.{target_told}
use Rattle.rc_memo.specs.Facts.{level_told, dependency_told, scope_told, node_told, names_told, at_each}
use Rattle.rc_memo.specs.Level.{stronger}
use Rattle.rc_memo.specs.declared.level.MemoizationLevel.{MemoizationLevel}
use Rattle.rc_memo.specs.declared.level.MemoizationLevel.TheVariants.{Never}
use Rattle.rc_memo.specs.declared.record.MemoNode.{MemoNode}
use Rattle.rc_memo.specs.inside.Nodes.{at_name, empty_node, HoldsNodes, with_dependency, with_level, with_scope}

pub itself : {K : Type 0} (x : Id K) → same_id x x ≡ true
itself x = ids_equivalence.refl x

-- two functions that agree at all keys but d
module _ {V : Type 0} (g h : DeclarationId → V) (d : DeclarationId) (f : V → V) (at : h d ≡ f (g d))
    (off : (k : DeclarationId) → same_id d k ≡ false → h k ≡ g k) where
  pub none_changed : (ks : List DeclarationId) → list_any (same_id d) ks ≡ false → at_each h ks ≡ at_each g ks
  none_changed [] n = refl
  none_changed (k ∷ ks) n = go (same_id d k) refl n (none_changed ks) where
    go : (b : Bool) → same_id d k ≡ b → (b || list_any (same_id d) ks) ≡ false
        → (list_any (same_id d) ks ≡ false → at_each h ks ≡ at_each g ks) → (k, h k) ∷ at_each h ks ≡ (k, g k)
        ∷ at_each g ks
    go true e n r = cc
    go false e n r = let u = off k e in let v = r n in cc

  apart : (k : DeclarationId) (ks : List DeclarationId) → same_id d k ≡ true
      → AllByRecursion (λ y. same_id k y ≡ false) ks → list_any (same_id d) ks ≡ false
  apart k [] e a = refl
  apart k (x ∷ xs) e a =
      ap (λ w. w || list_any (same_id d) xs) (subst (λ w. same_id w x ≡ false) (sym (same_id-eq d k e)) a.0)
      ∙ apart k xs e a.1

  pub one_changed : (ks : List DeclarationId) → IsDistinct same_id ks → list_any (same_id d) ks ≡ true → at_each h ks
      ≡ at_name d f (at_each g ks)
  unfolding IsDistinct
  one_changed [] a n = cc
  one_changed (k ∷ ks) a n = go (same_id d k) refl n (one_changed ks a.1) where
    go : (b : Bool) → same_id d k ≡ b → (b || list_any (same_id d) ks) ≡ true
        → (list_any (same_id d) ks ≡ true → at_each h ks ≡ at_name d f (at_each g ks)) →
        (k, h k) ∷ at_each h ks ≡ cond b ((k, f (g k)) ∷ at_each g ks) ((k, g k) ∷ at_name d f (at_each g ks))
    go true e n r =
        let here : h k ≡ f (g k) = subst (λ w. h w ≡ f (g w)) (same_id-eq d k e) at in
        let rest = none_changed ks (apart k ks e a.0) in cc
    go false e n r = let u = off k e in let v = r n in cc

-- the facts of one kind, one more fact
pub one_less : {Y : Type 0} (h : Fact → Option Y) (fs : List Fact) (f : Fact) → h f ≡ None → filter_map h (fs ++ f ∷ [])
    ≡ filter_map h fs
one_less h fs f none = filter_map-append h fs (f ∷ []) ∙ ap (λ w. filter_map h fs ++ cons_option w []) none
    ∙ append-nil (filter_map h fs)

pub one_more : {Y : Type 0} (h : Fact → Option Y) (fs : List Fact) (f : Fact) (y : Y) → h f ≡ Some y
    → filter_map h (fs ++ f ∷ []) ≡ filter_map h fs ++ y ∷ []
one_more h fs f y some = filter_map-append h fs (f ∷ []) ∙ ap (λ w. filter_map h fs ++ cons_option w []) some

pub node_same : {a b : MemoizationLevel} {d e : List DeclarationId} {s t : List ScopeId} → a ≡ b → d ≡ e → s ≡ t
    → ◌≡◌ {A = MemoNode} record { level = a; dependencies = d; scopes = s } record
    { level = b; dependencies = e; scopes = t }
node_same p q r i = record { level = p i; dependencies = q i; scopes = r i }

-- a fact of another name
node_toldf : (fs : List Fact) (f : Fact) (k : DeclarationId) → level_told k f ≡ None → dependency_told k f ≡ None
    → scope_told k f ≡ None → node_told (fs ++ f ∷ []) k ≡ node_told fs k
unfolding node_told
node_toldf fs f k a b c =
    node_same (ap strongest (one_less (level_told k) fs f a))
    (ap (distinct same_id) (one_less (dependency_told k) fs f b))
    (ap (distinct same_id) (one_less (scope_told k) fs f c))

own : {Y : Type 0} (d : DeclarationId) (y : Y) → only_if (same_id d d) y ≡ Some y
own d y = ap (λ w. only_if w y) (itself d)

other : {Y : Type 0} (d k : DeclarationId) (y : Y) → same_id d k ≡ false → only_if (same_id k d) y ≡ None
other d k y off = go (same_id k d) refl where
  go : (b : Bool) → same_id k d ≡ b → only_if b y ≡ None
  go false e = refl
  go true e = cc (same_id-eq k d e, off, itself k)

pub strongest-push : (ls : List MemoizationLevel) (l : MemoizationLevel) → strongest (ls ++ l ∷ [])
    ≡ stronger (strongest ls) l
strongest-push [] l = stronger_commutes l Never
strongest-push (x ∷ xs) l = ap (stronger x) (strongest-push xs l) ∙ sym (stronger_associates x (strongest xs) l)

need_at : (fs : List Fact) (d e : DeclarationId) → node_told (fs ++ DependsOn d e ∷ []) d
    ≡ with_dependency e (node_told fs d)
unfolding node_told
need_at fs d e =
    node_same (ap strongest (one_less (level_told d) fs (DependsOn d e) refl))
    (ap (distinct same_id) (one_more (dependency_told d) fs (DependsOn d e) e (own d e))
    ∙ distinct_push same_id same_id-eq itself (filter_map (dependency_told d) fs) e)
    (ap (distinct same_id) (one_less (scope_told d) fs (DependsOn d e) refl))

scope_at : (fs : List Fact) (d : DeclarationId) (c : ScopeId) → node_told (fs ++ HasScope d c ∷ []) d
    ≡ with_scope c (node_told fs d)
unfolding node_told
scope_at fs d c =
    node_same (ap strongest (one_less (level_told d) fs (HasScope d c) refl))
    (ap (distinct same_id) (one_less (dependency_told d) fs (HasScope d c) refl))
    (ap (distinct same_id) (one_more (scope_told d) fs (HasScope d c) c (own d c))
    ∙ distinct_push same_id same_id-eq itself (filter_map (scope_told d) fs) c)

level_at : (fs : List Fact) (d : DeclarationId) (l : MemoizationLevel) → node_told (fs ++ GivesLevel d l ∷ []) d
    ≡ with_level l (node_told fs d)
unfolding node_told
level_at fs d l =
    node_same (ap strongest (one_more (level_told d) fs (GivesLevel d l) l (own d l))
    ∙ strongest-push (filter_map (level_told d) fs) l)
    (ap (distinct same_id) (one_less (dependency_told d) fs (GivesLevel d l) refl))
    (ap (distinct same_id) (one_less (scope_told d) fs (GivesLevel d l) refl))

pub names_same : (fs : List Fact) (f : Fact) → target_told f ≡ None → names_told (fs ++ f ∷ []) ≡ names_told fs
unfolding names_told
names_same fs f none = ap (distinct same_id) (one_less target_told fs f none)

pub names_more : (fs : List Fact) (d : DeclarationId) (l : MemoizationLevel) → names_told (fs ++ GivesLevel d l ∷ [])
    ≡ insert_key same_id (names_told fs) d
unfolding names_told
names_more fs d l = ap (distinct same_id) (one_more target_told fs (GivesLevel d l) d refl)
    ∙ distinct_push same_id same_id-eq itself (filter_map target_told fs) d

names_distinct : (fs : List Fact) → IsDistinct same_id (names_told fs)
unfolding names_told
names_distinct fs = distinct_is same_id same_id-eq itself (filter_map target_told fs)

-- a fact of a name that is a target already
told : (fs : List Fact) (f : Fact) (d : DeclarationId) (change : MemoNode → MemoNode) → names_told (fs ++ f ∷ [])
    ≡ names_told fs → node_told (fs ++ f ∷ []) d ≡ change (node_told fs d) →
    ((k : DeclarationId) → same_id d k ≡ false → node_told (fs ++ f ∷ []) k ≡ node_told fs k)
    → (nodes : List (DeclarationId × MemoNode)) → HoldsNodes fs nodes → list_any (same_id d) (names_told fs) ≡ true
    → HoldsNodes (fs ++ f ∷ []) (at_name d change nodes)
told fs f d change names at off nodes holds there = record {
  nodes_are = ap (at_name d change) holds.nodes_are
      ∙ sym (one_changed (node_told fs) (node_told (fs ++ f ∷ [])) d change at off (names_told fs) (names_distinct fs)
      there) ∙ ap (at_each (node_told (fs ++ f ∷ []))) (sym names);
  grounded = λ k none. let before : list_any (same_id k) (names_told fs) ≡ false =
      ap (list_any (same_id k)) (sym names) ∙ none in off k (differs k before (same_id d k) refl)
      ∙ holds.grounded k before;
} where
  differs : (k : DeclarationId) → list_any (same_id k) (names_told fs) ≡ false → (b : Bool) → same_id d k ≡ b
      → same_id d k ≡ false
  differs k before false e = e
  differs k before true e = cc (ap (λ w. list_any (same_id w) (names_told fs)) (same_id-eq d k e), there, before)

pub told_need : (fs : List Fact) (d e : DeclarationId) (nodes : List (DeclarationId × MemoNode)) → HoldsNodes fs nodes
    → list_any (same_id d) (names_told fs) ≡ true
    → HoldsNodes (fs ++ DependsOn d e ∷ []) (at_name d (with_dependency e) nodes)
told_need fs d e nodes =
    told fs (DependsOn d e) d (with_dependency e) (names_same fs (DependsOn d e) refl) (need_at fs d e)
    (λ k off. node_toldf fs (DependsOn d e) k refl (other d k e off) refl) nodes

pub told_scope : (fs : List Fact) (d : DeclarationId) (c : ScopeId) (nodes : List (DeclarationId × MemoNode))
    → HoldsNodes fs nodes → list_any (same_id d) (names_told fs) ≡ true
    → HoldsNodes (fs ++ HasScope d c ∷ []) (at_name d (with_scope c) nodes)
told_scope fs d c nodes =
    told fs (HasScope d c) d (with_scope c) (names_same fs (HasScope d c) refl) (scope_at fs d c)
    (λ k off. node_toldf fs (HasScope d c) k refl refl (other d k c off)) nodes

pub told_level : (fs : List Fact) (d : DeclarationId) (l : MemoizationLevel) (nodes : List (DeclarationId × MemoNode))
    → HoldsNodes fs nodes → list_any (same_id d) (names_told fs) ≡ true
    → HoldsNodes (fs ++ GivesLevel d l ∷ []) (at_name d (with_level l) nodes)
told_level fs d l nodes holds there =
    told fs (GivesLevel d l) d (with_level l)
    (names_more fs d l ∙ ap (λ w. cond w (names_told fs) (names_told fs ++ d ∷ [])) there) (level_at fs d l)
    (λ k off. node_toldf fs (GivesLevel d l) k (other d k l off) refl refl) nodes holds there

-- a target that comes first
pub told_first : (fs : List Fact) (d : DeclarationId) (l : MemoizationLevel) (nodes : List (DeclarationId × MemoNode))
    → HoldsNodes fs nodes → list_any (same_id d) (names_told fs) ≡ false
    → HoldsNodes (fs ++ GivesLevel d l ∷ []) (nodes ++ (d, with_level l empty_node) ∷ [])
told_first fs d l nodes holds none =
    let fs' = fs ++ GivesLevel d l ∷ [] in
    let names : names_told fs' ≡ names_told fs ++ d ∷ [] =
    names_more fs d l ∙ ap (λ w. cond w (names_told fs) (names_told fs ++ d ∷ [])) none in
    let off =
    λ (k : DeclarationId) (o : same_id d k ≡ false). node_toldf fs (GivesLevel d l) k (other d k l o) refl refl in
    let at = level_at fs d l in
    let mine : node_told fs' d ≡ with_level l empty_node = at ∙ ap (with_level l) (holds.grounded d none) in
    record {
      nodes_are =
          ap (λ w. w ++ (d, with_level l empty_node) ∷ [])
          (holds.nodes_are
          ∙ sym (none_changed (node_told fs) (node_told fs') d (with_level l) at off (names_told fs) none))
          ∙ ap (λ w. at_each (node_told fs') (names_told fs) ++ (d, w) ∷ []) (sym mine)
          ∙ sym (map-append (λ (k : DeclarationId). (k, node_told fs' k)) (names_told fs) (d ∷ []))
          ∙ ap (at_each (node_told fs')) (sym names);
      grounded = λ k gone. let both = ap (list_any (same_id k)) (sym names) ∙ gone in let q =
          neither k (names_told fs) d both in off k (turned k q.1) ∙ holds.grounded k q.0;
    } where
      neither : (k : DeclarationId) (xs : List DeclarationId) (x : DeclarationId) → list_any (same_id k) (xs ++ x ∷ [])
          ≡ false → (list_any (same_id k) xs ≡ false) × (same_id k x ≡ false)
      neither k [] x h = (refl, split (same_id k x) h) where
        split : (b : Bool) → (b || false) ≡ false → b ≡ false
        split false e = e
        split true e = e
      neither k (y ∷ ys) x h = join' (same_id k y) h (λ g. neither k ys x g) where
        join' : (b : Bool) → (b || list_any (same_id k) (ys ++ x ∷ [])) ≡ false
            → (list_any (same_id k) (ys ++ x ∷ []) ≡ false → (list_any (same_id k) ys ≡ false) × (same_id k x ≡ false))
            → ((b || list_any (same_id k) ys) ≡ false) × (same_id k x ≡ false)
        join' false e r = r e
        join' true e r = cc

      turned : (k : DeclarationId) → same_id k d ≡ false → same_id d k ≡ false
      turned k e = go (same_id d k) refl where
        go : (b : Bool) → same_id d k ≡ b → same_id d k ≡ false
        go false f = f
        go true f = cc (same_id-eq d k f, e, itself d)

pub each_off : (g h : DeclarationId → MemoNode) → ((k : DeclarationId) → h k ≡ g k) → (ks : List DeclarationId)
    → at_each h ks ≡ at_each g ks
each_off g h off [] = refl
each_off g h off (k ∷ ks) = let u = off k in let v = each_off g h off ks in cc

-- a name that is asked for changes nothing
pub told_asked : (fs : List Fact) (d : DeclarationId) (nodes : List (DeclarationId × MemoNode)) → HoldsNodes fs nodes
    → HoldsNodes (fs ++ NeedsNode d ∷ []) nodes
told_asked fs d nodes holds =
    let names = names_same fs (NeedsNode d) refl in
    let off = λ (k : DeclarationId). node_toldf fs (NeedsNode d) k refl refl refl in
    record {
      nodes_are = holds.nodes_are
          ∙ sym (each_off (node_told fs) (node_told (fs ++ NeedsNode d ∷ [])) off (names_told fs))
          ∙ ap (at_each (node_told (fs ++ NeedsNode d ∷ []))) (sym names);
      grounded = λ k none. off k ∙ holds.grounded k (ap (list_any (same_id k)) (sym names) ∙ none);
    }
