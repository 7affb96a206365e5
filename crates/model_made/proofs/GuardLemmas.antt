-- Core forms with other variables and other functions in them keep their shape.
use Rattle.std.proofs.Common.{◌≡◌, ℕ, [], ◌∷◌, Some, refl, sym, ap, ◌∙◌}
use Rattle.model_terms.specs.Cores.{Core, Cores, Var, Const, If, Let, Mv, MvLet, StobjLet, WithLocal, MustBeEqual, Call, none, more, count}
use Rattle.model_terms.specs.Worlds.{World}
use Rattle.model_expansion_forms.specs.Nodes.{EachNode, AllNodes, IsOwnCall, HasForms}
use Rattle.model_expansion_forms.specs.Rows.{Takes}
use Rattle.model_stobjs.specs.Guards.{Renaming, renamed_name, without_names, renamed_core, renamed_cores, with_functions, all_with_functions}
use Rattle.std.specs.Prelude.{◌++◌, ◌+◌}

-- closed and formed
pub record IsOwnNode (w : World) (f : Core) : Type 0 where
  pub own : IsOwnCall w f
  pub forms : HasForms f

plain : (w : World) (f : Core) → IsOwnCall w f → HasForms f → IsOwnNode w f
plain w f own forms = record { own = own; forms = forms }

count_renamed : (fs : Cores) (r : Renaming) → count (renamed_cores fs r) ≡ count fs
unfolding renamed_core renamed_cores
count_renamed none r = refl
count_renamed (more f fs) r = ap (λ (n : ℕ). 1 + n) (count_renamed fs r)

count_with : (fs : Cores) (r : Renaming) → count (all_with_functions fs r) ≡ count fs
unfolding with_functions all_with_functions
count_with none r = refl
count_with (more f fs) r = ap (λ (n : ℕ). 1 + n) (count_with fs r)

module _ (w : World) where
  mutual
    unfolding renamed_core renamed_cores

    pub renamed_own : (f : Core) (r : Renaming) → EachNode (IsOwnNode w) f → EachNode (IsOwnNode w) (renamed_core f r)
    renamed_own (Var x) r h = plain w _ tt tt
    renamed_own (Const o) r h = plain w _ tt tt
    renamed_own (If a b c) r h = (plain w _ tt tt, renamed_own a r h.1, renamed_own b r h.2, renamed_own c r h.3)
    renamed_own (Let names bound body) r h = (plain w _ tt (count_renamed bound r ∙ h.0.forms), all_renamed bound r h.1, renamed_own body (without_names names r) h.2)
    renamed_own (Mv parts) r h = (plain w _ tt tt, all_renamed parts r h.1)
    renamed_own (MvLet names bound body) r h = (plain w _ tt tt, renamed_own bound r h.1, renamed_own body (without_names names r) h.2)
    renamed_own (StobjLet names bound vars producer consumer) r h =
        (plain w _ tt (count_renamed bound r ∙ h.0.forms), all_renamed bound r h.1, renamed_own producer (without_names names r) h.2, renamed_own consumer (without_names (names ++ vars) r) h.3)
    renamed_own (WithLocal stobj names producer body) r h =
        (plain w _ tt tt, renamed_own producer (without_names (stobj ∷ []) r) h.1, renamed_own body (without_names (stobj ∷ names) r) h.2)
    renamed_own (MustBeEqual logic exec) r h = (plain w _ tt tt, renamed_own logic r h.1, renamed_own exec r h.2)
    renamed_own (Call f actuals) r h = (plain w _ (h.0.own ∙ ap (λ (n : ℕ). Some n) (sym (count_renamed actuals r))) tt, all_renamed actuals r h.1)

    all_renamed : (fs : Cores) (r : Renaming) → AllNodes (IsOwnNode w) fs → AllNodes (IsOwnNode w) (renamed_cores fs r)
    all_renamed none r h = tt
    all_renamed (more f fs) r h = (renamed_own f r h.0, all_renamed fs r h.1)

module _ (w new : World) (r : Renaming) (takes : (f n : ℕ) → Takes w f n → Takes new (renamed_name r f) n) where
  mutual
    unfolding with_functions all_with_functions

    pub with_own : (f : Core) → EachNode (IsOwnNode w) f → EachNode (IsOwnNode new) (with_functions f r)
    with_own (Var x) h = plain new _ tt tt
    with_own (Const o) h = plain new _ tt tt
    with_own (If a b c) h = (plain new _ tt tt, with_own a h.1, with_own b h.2, with_own c h.3)
    with_own (Let names bound body) h = (plain new _ tt (count_with bound r ∙ h.0.forms), all_with bound h.1, with_own body h.2)
    with_own (Mv parts) h = (plain new _ tt tt, all_with parts h.1)
    with_own (MvLet names bound body) h = (plain new _ tt tt, with_own bound h.1, with_own body h.2)
    with_own (StobjLet names bound vars producer consumer) h = (plain new _ tt (count_with bound r ∙ h.0.forms), all_with bound h.1, with_own producer h.2, with_own consumer h.3)
    with_own (WithLocal stobj names producer body) h = (plain new _ tt tt, with_own producer h.1, with_own body h.2)
    with_own (MustBeEqual logic exec) h = (plain new _ tt tt, with_own logic h.1, with_own exec h.2)
    with_own (Call f actuals) h = (plain new _ (takes f (count actuals) h.0.own ∙ ap (λ (n : ℕ). Some n) (sym (count_with actuals r))) tt, all_with actuals h.1)

    all_with : (fs : Cores) → AllNodes (IsOwnNode w) fs → AllNodes (IsOwnNode new) (all_with_functions fs r)
    all_with none h = tt
    all_with (more f fs) h = (with_own f h.0, all_with fs h.1)
