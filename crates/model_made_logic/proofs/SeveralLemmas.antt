-- Forms with other names in them have several values where they had.
use Rattle.std.proofs.Common.{◌≡◌, ℕ, ◌+◌, ◌≤◌, [], ◌∷◌, ◌++◌, refl, sym, ap, subst}
use Rattle.model_terms.specs.Cores.{Core, Cores, Var, Const, If, Let, Mv, MvLet, StobjLet, WithLocal, MustBeEqual, Call, none, more, count}
use Rattle.model_expansion_forms.specs.Nodes.{EachNode, AllNodes, HasSeveral}
use Rattle.model_stobjs.specs.Guards.{Renaming, renamed_core, renamed_cores, with_functions, all_with_functions, without_names}

renamed_count : (fs : Cores) (r : Renaming) → count (renamed_cores fs r) ≡ count fs
unfolding renamed_cores
renamed_count none r = refl
renamed_count (more f fs) r = ap (λ (n : ℕ). 1 + n) (renamed_count fs r)

mutual
  unfolding renamed_core renamed_cores

  pub renamed_several : (f : Core) (r : Renaming) → EachNode HasSeveral f → EachNode HasSeveral (renamed_core f r)
  renamed_several (Var x) r h = tt
  renamed_several (Const o) r h = tt
  renamed_several (If a b c) r h = (tt, renamed_several a r h.1, renamed_several b r h.2, renamed_several c r h.3)
  renamed_several (Let names bound body) r h = (tt, all_renamed bound r h.1, renamed_several body (without_names names r) h.2)
  renamed_several (Mv parts) r h = (subst (λ (n : ℕ). 2 ≤ n) (sym (renamed_count parts r)) h.0, all_renamed parts r h.1)
  renamed_several (MvLet names bound body) r h = (h.0, renamed_several bound r h.1, renamed_several body (without_names names r) h.2)
  renamed_several (StobjLet names bound vars producer consumer) r h =
      (tt, all_renamed bound r h.1, renamed_several producer (without_names names r) h.2, renamed_several consumer (without_names (names ++ vars) r) h.3)
  renamed_several (WithLocal stobj names producer body) r h =
      (h.0, renamed_several producer (without_names (stobj ∷ []) r) h.1, renamed_several body (without_names (stobj ∷ names) r) h.2)
  renamed_several (MustBeEqual logic exec) r h = (tt, renamed_several logic r h.1, renamed_several exec r h.2)
  renamed_several (Call f actuals) r h = (tt, all_renamed actuals r h.1)

  all_renamed : (fs : Cores) (r : Renaming) → AllNodes HasSeveral fs → AllNodes HasSeveral (renamed_cores fs r)
  all_renamed none r h = tt
  all_renamed (more f fs) r h = (renamed_several f r h.0, all_renamed fs r h.1)

other_count : (fs : Cores) (r : Renaming) → count (all_with_functions fs r) ≡ count fs
unfolding all_with_functions
other_count none r = refl
other_count (more f fs) r = ap (λ (n : ℕ). 1 + n) (other_count fs r)

mutual
  unfolding with_functions all_with_functions

  pub other_several : (f : Core) (r : Renaming) → EachNode HasSeveral f → EachNode HasSeveral (with_functions f r)
  other_several (Var x) r h = tt
  other_several (Const o) r h = tt
  other_several (If a b c) r h = (tt, other_several a r h.1, other_several b r h.2, other_several c r h.3)
  other_several (Let names bound body) r h = (tt, all_other bound r h.1, other_several body r h.2)
  other_several (Mv parts) r h = (subst (λ (n : ℕ). 2 ≤ n) (sym (other_count parts r)) h.0, all_other parts r h.1)
  other_several (MvLet names bound body) r h = (h.0, other_several bound r h.1, other_several body r h.2)
  other_several (StobjLet names bound vars producer consumer) r h = (tt, all_other bound r h.1, other_several producer r h.2, other_several consumer r h.3)
  other_several (WithLocal stobj names producer body) r h = (h.0, other_several producer r h.1, other_several body r h.2)
  other_several (MustBeEqual logic exec) r h = (tt, other_several logic r h.1, other_several exec r h.2)
  other_several (Call f actuals) r h = (tt, all_other actuals r h.1)

  all_other : (fs : Cores) (r : Renaming) → AllNodes HasSeveral fs → AllNodes HasSeveral (all_with_functions fs r)
  all_other none r h = tt
  all_other (more f fs) r h = (other_several f r h.0, all_other fs r h.1)
