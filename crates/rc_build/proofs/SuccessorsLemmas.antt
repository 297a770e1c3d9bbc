-- Tests on the successors of a terminal, part by part.
use Rattle.std.proofs.Common.{◌≡◌, Bool, true, false, List, [], ◌∷◌, ◌++◌, ◌||◌, refl, sym, ap, ◌∙◌}
use Rattle.std.specs.List.{list_any}
use Rattle.std.proofs.lemmas.List.Folds.{list_any-append}
use Rattle.rc_names.specs.Numbers.{BlockId}
use Rattle.rc_hir.specs.Model.{Case}
use Rattle.rc_hir.specs.Successors.{case_blocks}

-- a test on the cases' blocks
pub case_blocks_any : (p : BlockId → Bool) (cases : List Case)
    → list_any (λ case. p case.block) cases ≡ list_any p (case_blocks cases)
case_blocks_any p [] = refl
case_blocks_any p (case ∷ cases) = ap (λ b. p case.block || b) (case_blocks_any p cases)

-- a test on the front part, and then on the rest
pub any_first : (p : BlockId → Bool) (front back : List BlockId) → list_any p front ≡ true
    → true ≡ list_any p (front ++ back)
any_first p front back is = sym (list_any-append p front back ∙ ap (λ b. b || list_any p back) is)

pub any_second : (p : BlockId → Bool) (front back : List BlockId) → list_any p front ≡ false
    → list_any p back ≡ list_any p (front ++ back)
any_second p front back is = sym (list_any-append p front back ∙ ap (λ b. b || list_any p back) is)
