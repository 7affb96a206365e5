-- The evaluation of a leaf.
use Rattle.std.specs.Prelude.{◌≡◌, ℕ, zero, suc, ◌≤◌, List, [], ◌∷◌, length, Option, Some, unwrap_or}
use Rattle.std.proofs.Common.{sym, subst, ap, ◌∙◌, arith}
use Rattle.model_objects.specs.Object.{Object}
use Rattle.model_symbols.specs.Symbols.{Package, Table}
use Rattle.model_terms.specs.Cores.{Core, Var, Const, If, Let, Mv, MvLet, StobjLet, WithLocal, MustBeEqual, Call}
use Rattle.model_terms.specs.Worlds.{World, MacroFormals}
use Rattle.model_terms.specs.Faults.{formal_names}
use Rattle.model_eval.specs.Outcomes.{Shown, Plain, State, Gives}
use Rattle.model_eval.specs.Outcomes as outcomes
use Rattle.model_eval.specs.Variables.{Variables, bound, plain}
use Rattle.model_eval.specs.Evaluated.{evaluated}
use Rattle.model_eval.specs.Checked.{checked, begun}
use Rattle.acl_base.specs.declared.Word.{Word}
use Rattle.acl_heap.specs.Objects.{Objects, object_of}
use Rattle.acl_forms.specs.Forms.{IsWhole, AreWhole}
use Rattle.acl_terms.specs.declared.outcome.Shown as declared
use Rattle.acl_engine.specs.declared.outcome.Outcome.{Outcome}
use Rattle.acl_terms.specs.declared.outcome.Stop.{Stop}
use Rattle.acl_terms.specs.declared.outcome.Stop.TheVariants as stop
use Rattle.acl_engine.specs.Outcomes.{ended, ended_reach, ended_words, outcome_words, state_at, all_shown, all_shown_reach, shown_words, seen_outcome, macro_value, IsOutcome}
use Rattle.acl_expand_rows.specs.Leaves.{leaf_value, Given}

leaf_gives : (w : World) (packages : List Package) (steps depth : ℕ) (f : Core) (vs : Variables ℕ) (v : Shown ℕ) (s : State ℕ) → leaf_value f vs ≡ Some v
    → checked w packages steps depth f vs s ≡ Gives (v ∷ []) s
unfolding evaluated
leaf_gives w packages steps zero (Var x) vs v s e = ap (λ o. Gives (unwrap_or o v ∷ []) s) e
leaf_gives w packages steps (suc d) (Var x) vs v s e = ap (λ o. Gives (unwrap_or o v ∷ []) s) e
leaf_gives w packages steps zero (Const o) vs v s e = ap (λ o. Gives (unwrap_or o v ∷ []) s) e
leaf_gives w packages steps (suc d) (Const o) vs v s e = ap (λ o. Gives (unwrap_or o v ∷ []) s) e
leaf_gives w packages steps depth (If a b c) vs v s e = cc
leaf_gives w packages steps depth (Let names forms body) vs v s e = cc
leaf_gives w packages steps depth (Mv parts) vs v s e = cc
leaf_gives w packages steps depth (MvLet names form body) vs v s e = cc
leaf_gives w packages steps depth (StobjLet names forms vars producer consumer) vs v s e = cc
leaf_gives w packages steps depth (WithLocal stobj names producer body) vs v s e = cc
leaf_gives w packages steps depth (MustBeEqual logic exec) vs v s e = cc
leaf_gives w packages steps depth (Call f actuals) vs v s e = cc

seen_given : (h : Objects) (t : Table) (o : Outcome) (word : Word) (used : ℕ) → Given o word used
    → seen_outcome h t.symbols [] o ≡ Gives (Plain (object_of h word) ∷ []) (begun t.symbols [] used)
seen_given h t o word used g =
    ap (λ (s : Option Stop). ended h t.symbols [] o s) g.stop
    ∙ (ap (λ (vs : List declared.Shown). Gives (all_shown h vs) (state_at t.symbols [] o)) g.values
    ∙ (ap (λ (c : ℕ). Gives (Plain (object_of h word) ∷ []) (record { stobjs = []; symbols = t.symbols; calls = c; outer = o.outer })) g.calls
    ∙ ap (λ (c : ℕ). Gives (Plain (object_of h word) ∷ []) (record { stobjs = []; symbols = t.symbols; calls = used; outer = c })) g.outer))

given_reach : (h : Objects) (t : Table) (o : Outcome) (word : Word) (used : ℕ) → Given o word used → IsWhole t h word → ended_reach o o.stop ≤ length h
given_reach h t o word used g k =
    let e : ended_reach o o.stop ≡ all_shown_reach o.values.items = ap (λ (s : Option Stop). ended_reach o s) g.stop in
    let f : all_shown_reach o.values.items ≡ all_shown_reach (declared.TheVariants.Value word ∷ []) = ap (λ (vs : List declared.Shown). all_shown_reach vs) g.values in
    let l = k.lies in rw (e ∙ f) (omega (arith, l))

pub gives_value : (h : Objects) (t : Table) (w : World) (steps depth : ℕ) (formals : MacroFormals) (body : Core) (vs : List (Object ℕ)) (word : Word) (o : Outcome) (used : ℕ)
    → Given o word used → leaf_value body (bound (formal_names formals) (plain vs) []) ≡ Some (Plain (object_of h word)) → IsWhole t h word
    → IsOutcome h t.symbols [] o (macro_value w t steps depth formals body vs used)
gives_value h t w steps depth formals body vs word o used g e k = record {
  is = λ n. seen_given h t o word used g ∙ sym (leaf_gives w t.packages steps depth body (bound (formal_names formals) (plain vs) []) (Plain (object_of h word)) (begun t.symbols [] used) e);
  lies = given_reach h t o word used g k;
}

pub value_whole : (h : Objects) (t : Table) (word : Word) (o : Outcome) (used : ℕ) → Given o word used → IsWhole t h word → AreWhole t h (outcome_words o)
value_whole h t word o used g k =
    subst (λ (s : Option Stop). AreWhole t h (ended_words o s)) (sym g.stop)
    (subst (λ (vs : List declared.Shown). AreWhole t h (shown_words vs)) (sym g.values) (k, tt))

pub refused : (h : Objects) (t : Table) (o : Outcome) (e : outcomes.Outcome ℕ) → o.stop ≡ Some stop.Memory → IsOutcome h t.symbols [] o e
refused h t o e k = record {
  is = λ n. elim (n k) [ ];
  lies = subst (λ (s : Option Stop). ended_reach o s ≤ length h) (sym k) (omega arith);
}

pub refused_whole : (h : Objects) (t : Table) (o : Outcome) → o.stop ≡ Some stop.Memory → AreWhole t h (outcome_words o)
refused_whole h t o k = subst (λ (s : Option Stop). AreWhole t h (ended_words o s)) (sym k) tt
