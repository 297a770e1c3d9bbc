-- What a function of the builder ensures where a fault ends it, and where it goes on with another one.
use Rattle.std.proofs.Common.{◌≡◌, List, Result, Ok, Err, Option, None, IfOk, IfErr, IsErrAnd, sym, ap, ◌∙◌}
use Rattle.std.proofs.Common.{subst}
use Rattle.std.proofs.lemmas.Result.{err_from_is_err_and}
use Rattle.rc_names.specs.Numbers.{BlockId}
use Rattle.rc_names.specs.declared.span.Span.{Span}
use Rattle.rc_hir.specs.Model.{Terminal, Fault, HirFunction, Rule}
use Rattle.rc_hir.specs.declared.fault.Fault.TheVariants as faults
use Rattle.rc_tree.specs.Model.{ReactiveStatement}
use Rattle.rc_build.specs.declared.builder.Builder.{Builder}
use Rattle.rc_build.specs.declared.builder.Site.{Site}
use Rattle.rc_build.specs.RuleFacts.{FaultFact, RuleFact}
use Rattle.rc_build.specs.inside.Setting.{Setting, setting_of, site_at}
use Rattle.rc_build.specs.inside.Task.{FromBlock, FromTerminal, Progress, Spells, Task, left, progress_of}
use Rattle.rc_build.specs.inside.Built.{Builds, BuildsList, BuildsTask, BuiltPart, BuiltPrefix, Refused, refusal}
use Rattle.rc_build.proofs.BuiltLemmas.{prefix_then, prefix_refused}

-- any site serves to speak of the same graph
abbrev pub any_site : BlockId → Site
any_site key = record { block = key; next = None; handler = None }

-- the graph is the same, where the setting is
pub same_graph : {s t : Setting} → s ≡ t → s.hir ≡ t.hir
same_graph same = ap (λ (z : Setting). z.hir) same

-- what is refused in the same setting
pub refused_in : {A : Type 0} {s t : Setting} (S : Setting → A → List BlockId → Type 0) (used : List BlockId) → s ≡ t
    → Refused s.hir (S s) used → Refused t.hir (S t) used
refused_in S used same none = subst (λ (z : Setting). Refused z.hir (S z) used) same none

-- what is built in the same setting
pub built_in : {A C : Type 0} {view : A → C} {s t : Setting} (S : Setting → A → List BlockId → Type 0)
    {before : List BlockId} {built : C} {old new : Progress} → s ≡ t
    → BuiltPart view (S s) s.hir before built old new → BuiltPart view (S t) t.hir before built old new
built_in {view = view} S {before} {built} {old} {new} same b =
    subst (λ (z : Setting). BuiltPart view (S z) z.hir before built old new) same b

-- the fault that a `?` passes on is that of its call
pub passed_on : {A B : Type 0} {inner fault : Fault} {result : Result A Fault}
    → IsErrAnd result (λ passed. passed ≡ inner) → result ≡ Err fault → ◌≡◌ {A = Result B Fault} (Err inner) (Err fault)
passed_on {inner = inner} {fault = fault} {result = result} passed e =
    let p = err_from_is_err_and result passed in let same : inner ≡ fault = cc (p.1, p.2, e) in ap Err same

-- something is built
pub is_built : {A : Type 0} {old new : Builder} {site : Site} {Built : A → Type 0} {N : Type 0} (answer : A)
    → Built answer → setting_of new site ≡ setting_of old site → Builds old new site Built N (Ok answer)
is_built answer b same = record {
  ok = b;
  refused = λ named rule e. absurd (let bad : ⊥ = cc in bad);
  facts = tt;
  frames = same;
}

-- something is built, in a box
pub boxed_built : {A : Type 0} {old new : Builder} {site : Site} {Built : A → Type 0} {N : Type 0} {answer boxed : A}
    → boxed ≡ answer → Built answer → setting_of new site ≡ setting_of old site → Builds old new site Built N (Ok boxed)
boxed_built {Built = Built} {boxed = boxed} is b same = is_built boxed (subst Built (sym is) b) same

-- a rule is broken
pub breaks_rule : {A : Type 0} {old new : Builder} {site : Site} {Built : A → Type 0} {N : Type 0} {fault : Fault}
    (block : BlockId) (rule : Rule) → fault ≡ faults.Malformed block rule → N → RuleFact old.hir.now rule block
    → Builds old new site Built N (Err fault)
breaks_rule {old = old} block rule is none fact = record {
  ok = tt;
  refused = λ named other e. none;
  facts = subst (FaultFact old.hir.now) (sym is) fact;
  frames = tt;
}

-- a `?` passes on the fault of a call that builds nothing
pub fails : {A : Type 0} {old new : Builder} {site : Site} {Built : A → Type 0} {N : Type 0} {fault : Fault}
    {result : Result A Fault} → IsErrAnd result (λ passed. passed ≡ fault) → FaultFact old.hir.now fault
    → ((block : BlockId) (rule : Option Rule) → fault ≡ refusal block rule → N)
    → Builds old new site Built N result
fails {old = old} {site = site} {Built = Built} {N = N} {fault = fault} {result = result} passed fact refuses =
    let p = err_from_is_err_and result passed in
    rw (p.1, p.2) (record {
      ok = tt;
      refused = λ named rule e. refuses named rule (let same : fault ≡ refusal named rule = cc in same);
      facts = fact;
      frames = tt;
    })

-- a `?` passes on the fault of a function that builds from the same graph
pub passes_on : {A B : Type 0} {old now later new : Builder} {site there : Site} {Built : A → Type 0}
    {BuiltThere : B → Type 0} {N NThere : Type 0} {fault : Fault} {result : Result A Fault} →
    IsErrAnd result (λ passed. passed ≡ fault) → now.hir.now ≡ old.hir.now →
    Builds now later there BuiltThere NThere (Err fault) → (NThere → N) → Builds old new site Built N result
passes_on {fault = fault} passed same inner refuses =
    fails passed (subst (λ z. FaultFact z fault) same inner.facts)
    (λ named rule e. refuses (inner.refused named rule (ap Err e)))

-- a `?` passes on the fault of a call that builds nothing, from the same graph
pub fails_at : {A : Type 0} {old new : Builder} {site : Site} {Built : A → Type 0} {N : Type 0} {fault : Fault}
    {result : Result A Fault} (hir : HirFunction) → IsErrAnd result (λ passed. passed ≡ fault) → hir ≡ old.hir.now
    → FaultFact hir fault → ((block : BlockId) (rule : Option Rule) → fault ≡ refusal block rule → N)
    → Builds old new site Built N result
fails_at {fault = fault} hir passed same fact refuses = fails passed (subst (λ z. FaultFact z fault) same fact) refuses

-- what is built of a terminal, whatever its span
pub builds_terminal : {old new : Builder} {site : Site} {result : Result (Option BlockId) Fault} {terminal : Terminal}
    (form : Option Span → Terminal) (span : Option Span) → terminal ≡ form span
    → ((other : Option Span) → BuildsTask old new site (FromTerminal (form other)) left result)
    → BuildsTask old new site (FromTerminal terminal) left result
builds_terminal {old} {new} {site} {result} form span is built =
    subst (λ k. BuildsTask old new site (FromTerminal k) left result) (sym is) (built span)

-- what a function builds of what another one left
pub builds_then : {A : Type 0} {old mid new : Builder} {site : Site} {task between : Task} {rest : A → Task}
    {result : Result A Fault} → setting_of mid site ≡ setting_of old site →
    BuiltPrefix (setting_of old site) task between (progress_of old) (progress_of mid) →
    BuildsTask mid new site between rest result → BuildsTask old new site task rest result
builds_then {A = A} {old} {mid} {new} {site} {task} {between} {rest} {result} same first later = record {
  ok = go result later.ok;
  refused = λ named rule e. prefix_refused first
      (refused_in (λ z. Spells z between) mid.marks.used same (later.refused named rule e));
  facts = facts result later.facts;
  frames = frames result later.frames;
}
  where
    go : (r : Result A Fault) →
        IfOk r (λ answer. BuiltPrefix (setting_of mid site) between (rest answer) (progress_of mid) (progress_of new)) →
        IfOk r (λ answer. BuiltPrefix (setting_of old site) task (rest answer) (progress_of old) (progress_of new))
    go (Ok answer) b = prefix_then first (subst
        (λ (z : Setting). BuiltPrefix z between (rest answer) (progress_of mid) (progress_of new)) same b)
    go (Err fault) b = tt

    facts : (r : Result A Fault) → IfErr r (FaultFact mid.hir.now) → IfErr r (FaultFact old.hir.now)
    facts (Ok answer) f = tt
    facts (Err fault) f = subst (λ (z : Setting). FaultFact z.hir fault) same f

    frames : (r : Result A Fault) → IfOk r (λ _. setting_of new site ≡ setting_of mid site)
        → IfOk r (λ _. setting_of new site ≡ setting_of old site)
    frames (Ok answer) e = e ∙ same
    frames (Err fault) e = tt

-- what is built at another block's site of the same list
pub builds_at : {A : Type 0} {old new : Builder} {site : Site} (block : BlockId) {Built BuiltThere : A → Type 0}
    {N NThere : Type 0} {result : Result A Fault} → ((answer : A) → BuiltThere answer → Built answer) → (NThere → N)
    → Builds old new (site_at block site) BuiltThere NThere result → Builds old new site Built N result
builds_at {A = A} {old} {new} {site} block {Built} {BuiltThere} {result = result} built none b = record {
  ok = go result b.ok;
  refused = λ named rule e. none (b.refused named rule e);
  facts = b.facts;
  frames = b.frames;
}
  where
    go : (r : Result A Fault) → IfOk r BuiltThere → IfOk r Built
    go (Ok answer) h = built answer h
    go (Err fault) h = tt

-- the list from another block on
pub list_at : {old new : Builder} {site inner : Site} (block : BlockId) {result : Result (List ReactiveStatement) Fault}
    → inner ≡ site_at block site → BuildsList old new inner inner.block result → BuildsList old new site block result
list_at {old} {new} block {result} is b =
    builds_at block (λ answer h. h) (λ none. none) (subst (λ (z : Site). BuildsList old new z z.block result) is b)

-- the statements of another block in the same list
pub block_at : {old new : Builder} {site inner : Site} {result : Result (Option BlockId) Fault} (block : BlockId)
    → inner ≡ site_at block site → BuildsTask old new inner (FromBlock inner.block) left result
    → BuildsTask old new site (FromBlock block) left result
block_at {old} {new} {result = result} block is b = builds_at block (λ answer h. h) (λ none. none)
    (subst (λ (z : Site). BuildsTask old new z (FromBlock z.block) left result) is b)
