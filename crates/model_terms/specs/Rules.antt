-- The rules S1 to S16: whether each fails at a site (ACL2's manual, topic STOBJ; Boyer and Moore, Single-Threaded Objects in
-- ACL2, 2002).
use Rattle.std.specs.Prelude.{ℕ, List, [], ◌∷◌, length, Bool, true, false, ◌&&◌, ◌||◌, not, Option, Some, None, nat_eq}
use Rattle.std.specs.Option.{option_map_or}
use Rattle.std.specs.List.{list_any, filter_map}
use Rattle.model_terms.specs.declared.rule.Rule.{Rule}
use Rattle.model_terms.specs.declared.rule.Rule.TheVariants.{S1, S2, S3, S4, S5, S6, S7, S8, S9, S11, S12, S13, S14, S15, S16}
use Rattle.model_terms.specs.declared.rule.Mode.{Mode}
use Rattle.model_terms.specs.declared.rule.Mode.TheVariants.{Executable, Logic, Macro}
use Rattle.model_terms.specs.Cores.{Core, Cores, none, more, Var, Const, If, Let, Mv, MvLet, StobjLet, WithLocal, MustBeEqual, Call, variable, count}
use Rattle.model_terms.specs.Worlds.{World, Out, Ordinary, Stobj, Scope, definition}
use Rattle.model_terms.specs.Classes.{is_stobj_name, repeats, stobjs}
use Rattle.model_terms.specs.Scopes.{in_scope, kind_of, name_kinds}
use Rattle.model_terms.specs.Outputs.{outs, stobj_actuals}
use Rattle.model_terms.specs.Sites.{Site, one_ordinary, first_kind, other_kinds, ins_of}
use Rattle.model_terms.specs.Accessors.{is_internal, runs}
use Rattle.model_terms.specs.Nested.{is_stobj, same_kinds, stobjs_expected, stands_for, stobj_let_holds, with_local_holds}

-- an actual in the position of a stobj is not the variable of one in scope that is congruent to it
abbrev pub s1_fails : World → Scope → Option ℕ → Core → Bool
s1_fails w scope None f = false
s1_fails w scope (Some o) f = not (option_map_or (λ x. stands_for w scope x o) (variable f) false)

-- a variable stands in two stobj positions
abbrev pub s2_fails : World → Core → Bool
s2_fails w (Call f actuals) = repeats (filter_map (λ v. v) (stobj_actuals (ins_of w f) actuals))
s2_fails w f = false

-- the variable of a stobj in scope stands where one ordinary output is expected
abbrev pub is_misplaced : Scope → List Out → ℕ → Bool
is_misplaced scope expected x = is_stobj (kind_of scope x) && same_kinds expected one_ordinary

abbrev pub s3_fails : Scope → List Out → Core → Bool
s3_fails scope expected (Var x) = is_misplaced scope expected x
s3_fails scope expected f = false

-- a `LET` binds a stobj's name, and another name
abbrev pub s4_fails : World → Core → Bool
s4_fails w (Let names bound body) = list_any (is_stobj_name w) names && not (nat_eq (length names) 1)
s4_fails w f = false

-- what is bound to a stobj's name does not give exactly that stobj
abbrev pub gives_another : World → Scope → ℕ → Core → Bool
gives_another w scope x f = is_stobj_name w x && not (same_kinds (outs w scope f) (Stobj x ∷ []))

abbrev pub any_gives_another : World → Scope → List ℕ → Cores → Bool
any_gives_another w scope [] bound = false
any_gives_another w scope (x ∷ names) none = false
any_gives_another w scope (x ∷ names) (more f bound) = gives_another w scope x f || any_gives_another w scope names bound

abbrev pub s5_fails : World → Scope → Core → Bool
s5_fails w scope (Let names bound body) = any_gives_another w scope names bound
s5_fails w scope f = false

-- a stobj that is bound is not expected
abbrev pub s6_fails : World → List Out → Core → Bool
s6_fails w expected (Let names bound body) = not (stobjs_expected (name_kinds w names) expected)
s6_fails w expected (MvLet names bound body) = not (stobjs_expected (name_kinds w names) expected)
s6_fails w expected f = false

-- two branches, or two parts, give different outputs
abbrev pub s7_fails : World → Scope → Core → Bool
s7_fails w scope (If a b c) = not (same_kinds (outs w scope b) (outs w scope c))
s7_fails w scope (MustBeEqual logic exec) = not (same_kinds (outs w scope logic) (outs w scope exec))
s7_fails w scope f = false

-- a call, a constant or a variable does not give the expected outputs
abbrev pub s8_fails : World → Scope → List Out → Core → Bool
s8_fails w scope expected (Var x) = not (is_misplaced scope expected x) && not (same_kinds (kind_of scope x ∷ []) expected)
s8_fails w scope expected (Const o) = not (same_kinds one_ordinary expected)
s8_fails w scope expected (Call f actuals) = not (same_kinds (outs w scope (Call f actuals)) expected)
s8_fails w scope expected f = false

-- a part stands where a stobj is expected, and is not its variable
abbrev pub is_wrong_part : Out → Core → Bool
is_wrong_part Ordinary f = false
is_wrong_part (Stobj x) f = not (option_map_or (nat_eq x) (variable f) false)

abbrev pub any_wrong_part : List Out → Cores → Bool
any_wrong_part kinds none = false
any_wrong_part kinds (more f parts) = is_wrong_part (first_kind kinds) f || any_wrong_part (other_kinds kinds) parts

abbrev pub mv_fails : List Out → Cores → Bool
mv_fails expected parts = not (nat_eq (count parts) (length expected)) || (any_wrong_part expected parts || repeats (stobjs expected))

-- an `MV` does not give the expected outputs, each stobj once; the bound form of an `MV-LET` does not give what the names say
abbrev pub s9_fails : World → Scope → List Out → Core → Bool
s9_fails w scope expected (Mv parts) = mv_fails expected parts
s9_fails w scope expected (MvLet names bound body) = not (same_kinds (outs w scope bound) (name_kinds w names))
s9_fails w scope expected f = false

-- a variable is not in scope; in a macro's body and in a constant S15 speaks of the names of stobjs
abbrev pub s11_fails : World → Mode → Scope → Core → Bool
s11_fails w Executable scope (Var x) = not (in_scope scope x)
s11_fails w Logic scope (Var x) = not (in_scope scope x)
s11_fails w Macro scope (Var x) = not (in_scope scope x) && not (is_stobj_name w x)
s11_fails w mode scope f = false

-- a child accessor, a child updater or a creator is called
abbrev pub s12_fails : World → Core → Bool
s12_fails w (Call f actuals) = option_map_or (is_internal w) (definition w f) false
s12_fails w f = false

abbrev pub s13_fails : World → Scope → List Out → Core → Bool
s13_fails w scope expected (StobjLet names bound vars producer consumer) = not (stobj_let_holds w scope expected names bound vars)
s13_fails w scope expected f = false

abbrev pub s14_fails : World → Scope → List Out → Core → Bool
s14_fails w scope expected (WithLocal stobj names producer body) = not (with_local_holds w scope expected stobj names producer)
s14_fails w scope expected f = false

-- the name of a stobj stands in the body of a macro or in a constant
abbrev pub s15_fails : World → Mode → Core → Bool
s15_fails w Macro (Var x) = is_stobj_name w x
s15_fails w mode f = false

-- a function that is not executable is called; a form of its own for stobjs stands in such a function
abbrev pub s16_fails : World → Mode → Core → Bool
s16_fails w Executable (Call f actuals) = not (runs w f)
s16_fails w Macro (Call f actuals) = not (runs w f)
s16_fails w Logic (StobjLet names bound vars producer consumer) = true
s16_fails w Logic (WithLocal stobj names producer body) = true
s16_fails w mode f = false

-- the rules but for S11, S15 and S16, which go by the mode, and S10, which is tested at the head of a definition
abbrev pub rule_fails : World → Rule → Site → Bool
rule_fails w S1 s = s1_fails w s.scope s.formal s.form
rule_fails w S2 s = s2_fails w s.form
rule_fails w S3 s = s3_fails s.scope s.expected s.form
rule_fails w S4 s = s4_fails w s.form
rule_fails w S5 s = s5_fails w s.scope s.form
rule_fails w S6 s = s6_fails w s.expected s.form
rule_fails w S7 s = s7_fails w s.scope s.form
rule_fails w S8 s = s8_fails w s.scope s.expected s.form
rule_fails w S9 s = s9_fails w s.scope s.expected s.form
rule_fails w S12 s = s12_fails w s.form
rule_fails w S13 s = s13_fails w s.scope s.expected s.form
rule_fails w S14 s = s14_fails w s.scope s.expected s.form
rule_fails w r s = false

-- in a function that does not run S11 and S16 alone are tested
abbrev pub fails : World → Mode → Rule → Site → Bool
fails w mode S11 s = s11_fails w mode s.scope s.form
fails w mode S15 s = s15_fails w mode s.form
fails w mode S16 s = s16_fails w mode s.form
fails w Logic r s = false
fails w Executable r s = rule_fails w r s
fails w Macro r s = rule_fails w r s
