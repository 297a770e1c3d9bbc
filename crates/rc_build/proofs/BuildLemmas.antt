-- The whole builder: from where it starts to the function, or to none.
use Rattle.std.proofs.Common.{◌≡◌, List, None, [], ◌∷◌, ◌++◌, refl, sym, ap, ◌∙◌, subst, length, arith}
use Rattle.std.specs.List.{IsDistinct}
use Rattle.rc_hir.specs.Model.{HirFunction, Environment}
use Rattle.rc_tree.specs.Model.{ReactiveFunction, ReactiveStatement}
use Rattle.rc_runs.specs.declared.frames.Frame.{Frame}
use Rattle.rc_names.specs.Numbers.{BlockId}
use Rattle.rc_build.specs.declared.builder.Builder.{Builder}
use Rattle.rc_build.specs.declared.builder.Marks.{Marks}
use Rattle.rc_runs.specs.ListContext.{outermost}
use Rattle.rc_runs.specs.Spelled.{AreSound, Spells as SpellsFunction, with_header}
use Rattle.rc_build.specs.inside.CanBuild.{AreMarked, CanBuildList, AreReferenced}
use Rattle.rc_build.specs.inside.Setting.{Setting, setting_of}
use Rattle.rc_build.specs.inside.Task.{FromBlock, Nothing, Progress, Spells, no_marks, no_progress}
use Rattle.rc_build.specs.inside.Built.{BuiltPrefix, Refused}
use Rattle.rc_build.proofs.BitsLemmas.{none_set}
use Rattle.rc_build.proofs.BuiltLemmas.{whole_list}

-- nothing is around the entry's list
pub at_outermost : (builder : Builder) (block : BlockId) {hir : HirFunction} {env : Environment}
    → builder.hir.now ≡ hir → builder.env.now ≡ env → builder.frames ≡ []
    → setting_of builder (record { block = block; next = None; handler = None })
    ≡ record { hir = hir; env = env; context = outermost }
at_outermost builder block h e f = cc

nothing_marked : (hir : HirFunction) → AreMarked hir (no_marks (length hir.body.blocks))
unfolding IsDistinct
nothing_marked hir = record {
  sound = record { distinct = tt; alive = λ key c. absurd (omega arith); scopes_once = tt };
  known = λ key h. absurd (let bad : ⊥ = cc in bad);
  told = none_set hir.body.blocks;
  scopes = refl;
}

entry_referenced : (hir : HirFunction) → AreReferenced hir [] (hir.body.entry ∷ [])
entry_referenced hir key = omega arith

-- nothing is used yet, and the entry is referred to
pub at_entry : (hir : HirFunction) (marks : Marks) (frames : List Frame) → marks ≡ no_marks (length hir.body.blocks)
    → frames ≡ [] → CanBuildList hir marks None frames hir.body.entry
at_entry hir marks frames m f =
    subst (λ z. CanBuildList hir z None frames hir.body.entry) (sym m)
    (subst (λ z. CanBuildList hir (no_marks (length hir.body.blocks)) None z hir.body.entry) (sym f) (record {
      marked = nothing_marked hir;
      handled = tt;
      referenced = entry_referenced hir;
      used_before = λ key h. absurd (let bad : ⊥ = cc in bad);
      owned = tt;
    }))

-- the entry's list, built to its end from nothing, is the body of the function
pub function_built : {hir : HirFunction} {env : Environment} {s : Setting} {old new : Progress}
    {func : ReactiveFunction} {list : List ReactiveStatement} →
    s ≡ record { hir = hir; env = env; context = outermost } → old ≡ no_progress hir → list ≡ new.out →
    BuiltPrefix s (FromBlock hir.body.entry) Nothing old new
    → func ≡ with_header hir (record { statements = list }) → SpellsFunction hir env func
function_built {hir} {env} {s} {old} {new} {func} {list} is none l p e =
    let q = subst (λ z. BuiltPrefix z (FromBlock hir.body.entry) Nothing old new) is p in
    let r = subst (λ z. BuiltPrefix (record { hir = hir; env = env; context = outermost }) (FromBlock hir.body.entry)
    Nothing z new) none q in
    let b = whole_list {outer = []} {kept = []} r refl l refl in
    record {
      statements = b.value;
      body = record {
        used = b.newly;
        list = b.spelled;
        sound = subst (AreSound hir) b.marking.used b.marking.marked.sound;
      };
      whole = e ∙ ap (λ z. with_header hir (record { statements = z })) b.is;
    }

-- where the entry's list is refused, no function is spelled
pub none_spelled : {hir : HirFunction} {env : Environment} {s : Setting} {marks : Marks} →
    s ≡ record { hir = hir; env = env; context = outermost } → marks ≡ no_marks (length hir.body.blocks) →
    Refused s.hir (Spells s (FromBlock hir.body.entry)) marks.used → (func : ReactiveFunction) → SpellsFunction hir env func → ⊥
none_spelled {hir} {env} {s} {marks} is none refused func f =
    subst (λ (z : Setting). Refused z.hir (Spells z (FromBlock hir.body.entry)) marks.used) is refused
    f.statements f.body.used f.body.list
    (subst (λ (z : Marks). AreSound hir (z.used ++ f.body.used)) (sym none) f.body.sound)
