-- A function of one formal, as the tests admit it.
use Rattle.std.specs.Prelude.{◌≡◌, ℕ, List, [], ◌∷◌, ◌++◌, true, None, refl}
use Rattle.std.proofs.Common.{sym, ap, ◌∙◌, subst, arith}
use Rattle.acl_base.specs.declared.SymId.{SymId}
use Rattle.acl_base.specs.declared.Word.{Word}
use Rattle.acl_heap.specs.Objects.{Objects, reach}
use Rattle.model_terms.specs.Worlds.{World}
use Rattle.model_stobjs.specs.Heads.{name_in_use}
use Rattle.model_slots_laws.specs.Standing.{functions_stand}
use Rattle.model_events.specs.Functions.{members}
use Rattle.model_standing.specs.Laws.{MembersStand}
use Rattle.acl_terms.specs.declared.form.Core.TheFolds.{fold-roll-Core}
use Rattle.acl_terms.specs.declared.form.Core.TheOpen as layer
use Rattle.acl_terms.specs.declared.form.Core.TheVariants as variants
use Rattle.acl_terms.specs.Forms.{seen_core, core_reach, layer_reach}
use Rattle.acl_terms.specs.FormLaws.{seen_var, seen_const}
use Rattle.acl_check.specs.declared.member.Member.{Member}
use Rattle.acl_signatures.specs.Candidates.{seen_candidates}
use Rattle.acl_admit.specs.Ready.{members_reach}

pub new_name : name_in_use [] (200 ∷ []) ≡ None
unfolding name_in_use
new_name = refl

-- ---- words

var_reach : (x : SymId) → core_reach (variants.Var x) ≡ 0
var_reach x = ap core_reach (sym (variants.rolls-Var x)) ∙ fold-roll-Core ℕ layer_reach (layer.Var x)

const_reach : (w : Word) → reach w ≡ 0 → core_reach (variants.Const w) ≡ 0
const_reach w e = ap core_reach (sym (variants.rolls-Const w)) ∙ (fold-roll-Core ℕ layer_reach (layer.Const w) ∙ e)

pub one_reach : (ms : List Member) (m : Member) (w : Word) (x : SymId) → ms ≡ m ∷ [] → m.guard ≡ variants.Const w → m.body ≡ variants.Var x → reach w ≡ 0 → members_reach ms ≡ 0
one_reach ms m w x e g b r =
    let guard : core_reach m.guard ≡ 0 = ap core_reach g ∙ const_reach w r in
    let body : core_reach m.body ≡ 0 = ap core_reach b ∙ var_reach x in
    let one : members_reach (m ∷ []) ≡ 0 = omega (arith, guard, body) in
    ap members_reach e ∙ one

-- ---- functions

var_stands : (w : World) (h : Objects) (x : SymId) → functions_stand w (seen_core h (variants.Var x)) ≡ true
unfolding functions_stand
var_stands w h x = ap (functions_stand w) (seen_var h x)

const_stands : (w : World) (h : Objects) (o : Word) → functions_stand w (seen_core h (variants.Const o)) ≡ true
unfolding functions_stand
const_stands w h o = ap (functions_stand w) (seen_const h o)

pub one_stands : (h : Objects) (ms none : List Member) (m : Member) (o : Word) (x : SymId) → none ≡ [] → ms ≡ none ++ m ∷ [] → m.guard ≡ variants.Const o → m.body ≡ variants.Var x
    → (w : World) → MembersStand w (members (seen_candidates h ms (true ∷ [])))
one_stands h ms none m o x n e g b w =
    let guard : functions_stand w (seen_core h m.guard) ≡ true = ap (λ f. functions_stand w (seen_core h f)) g ∙ const_stands w h o in
    let body : functions_stand w (seen_core h m.body) ≡ true = ap (λ f. functions_stand w (seen_core h f)) b ∙ var_stands w h x in
    let one : MembersStand w (members (seen_candidates h (m ∷ []) (true ∷ []))) = (record { guard = guard; body = body }, tt) in
    subst (λ xs. MembersStand w (members (seen_candidates h xs (true ∷ [])))) (sym (e ∙ ap (λ (xs : List Member). xs ++ m ∷ []) n)) one
