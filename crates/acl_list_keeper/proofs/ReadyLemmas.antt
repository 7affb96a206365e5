-- What is ready is what the definition answers.
use Rattle.std.specs.Prelude.{◌≡◌, ℕ, List, [], ◌∷◌, length, Option, Some, None, option_map, unwrap_or, refl}
use Rattle.std.proofs.Common.{sym, ap, ◌∙◌, subst}
use Rattle.acl_base.specs.declared.SymId.{SymId}
use Rattle.acl_base.specs.declared.Word.{Word}
use Rattle.model_symbols.specs.Symbols.{Table}
use Rattle.model_prims.specs.Kinds.{by_number}
use Rattle.model_lists.specs.Lists.{StobjList}
use Rattle.model_lists.specs.Effects.{Effect}
use Rattle.model_lists.specs.Layouts.{field_layout}
use Rattle.model_terms.specs.Worlds as worlds
use Rattle.model_eval.specs.Outcomes.{Stobjs, State}
use Rattle.model_eval.specs.Outcomes as outcomes
use Rattle.model_eval.specs.Variables.{ordinary, first_stobj}
use Rattle.model_eval.specs.StobjLayouts.{stobj_layout}
use Rattle.model_eval.specs.GeneratedCalls.{effect, effected, list_or_none}
use Rattle.model_eval.specs.ListsKeeping.{lists_keeping}
use Rattle.model_known.specs.Known.{KnowsAll, KnowsList, KnowsStobjs, KnowsEffect}
use Rattle.model_known.proofs.KeepingLemmas.{keeping_knows}
use Rattle.acl_heap.specs.Objects.{Objects, object_of, Extends}
use Rattle.acl_forms.specs.Forms.{AreWhole}
use Rattle.acl_terms.specs.declared.outcome.Shown.{Shown}
use Rattle.acl_terms.specs.declared.outcome.Shown.TheVariants as shown
use Rattle.acl_keep.specs.Seen.{all_seen, words_in, answer_words}
use Rattle.acl_worlds.specs.Contents.{Content}
use Rattle.acl_keep.specs.Calls.{Called, IsAnswered, called_from, answered}
use Rattle.acl_lists.specs.declared.cell.Cell.{Cell}
use Rattle.acl_new_lists.specs.Begun.{itself}
use Rattle.acl_list_parts.specs.Parts.{list_given}
use Rattle.acl_list_calls.specs.declared.done.Done.{Done}
use Rattle.acl_list_calls.specs.declared.done.Done.TheVariants as done
use Rattle.acl_list_calls.specs.Results.{ValuesLie, seen_done, DoneLies, Does}
use Rattle.acl_list_scope.specs.declared.scoped.ScopedLists.{ScopedLists}
use Rattle.acl_list_scope.specs.Scopes.{scope, number_of}
use Rattle.acl_list_scope.specs.Kept.{Keeps}
use Rattle.acl_list_keeper.specs.declared.ready.Change.{Change}
use Rattle.acl_list_keeper.specs.declared.ready.Ready.{Ready}
use Rattle.acl_list_keeper.specs.Readiness.{ready_of, ChangeWithin, changed, IsReady}
use Rattle.acl_list_keeper.specs.Sound.{WordsFit, ChangeFits, ReadyFits, IsSound}
use Rattle.acl_list_keeper.proofs.SoundLemmas.{sound_by}

-- ---- a change

pub none_changed : (t : ScopedLists) (cs : List Cell) (c : Option Change) (k : Stobjs ℕ) (ls : List (Stobjs ℕ)) → c ≡ None → Keeps t k ls → Keeps t (changed cs c k) ls
none_changed t cs c k ls e i = subst (λ o. Keeps t (changed cs o k) ls) (sym e) i

pub one_changed : (t : ScopedLists) (cs : List Cell) (c : Option Change) (d : Change) (k : Stobjs ℕ) (ls : List (Stobjs ℕ)) → c ≡ Some d → (ChangeWithin cs (Some d) → Keeps t (changed cs (Some d) k) ls)
    → ChangeWithin cs c → Keeps t (changed cs c k) ls
one_changed t cs c d k ls e i w = subst (λ o. Keeps t (changed cs o k) ls) (sym e) (i (subst (ChangeWithin cs) e w))

-- ---- values

pub values_lie : (t : Table) (h : Objects) (vs : List Shown) → AreWhole t h (words_in vs) → ValuesLie h vs
values_lie t h [] a = tt
values_lie t h (shown.Value w ∷ vs) a = (a.0.lies, values_lie t h vs a.1)
values_lie t h (shown.Object x ∷ vs) a = values_lie t h vs a

pub values_known : (t : Table) (h : Objects) (vs : List Shown) → AreWhole t h (words_in vs) → KnowsAll (length t.symbols) (ordinary (all_seen h vs))
values_known t h [] a = tt
values_known t h (shown.Value w ∷ vs) a = (a.0.known, values_known t h vs a.1)
values_known t h (shown.Object x ∷ vs) a = values_known t h vs a

pub values_later : (h h' : Objects) (vs : List Shown) → Extends h h' → ValuesLie h vs → all_seen h' vs ≡ all_seen h vs
values_later h h' [] e l = refl
values_later h h' (shown.Value w ∷ vs) e l = ap (λ o. outcomes.Plain o ∷ all_seen h' vs) (e.same w l.0) ∙ ap (λ os. outcomes.Plain (object_of h w) ∷ os) (values_later h h' vs e l.1)
values_later h h' (shown.Object x ∷ vs) e l = ap (λ os. outcomes.StobjNamed x.0 ∷ os) (values_later h h' vs e l)

-- ---- what is ready

effect_answered : (h : Objects) (cs : List Cell) (d : Done) (x : Option SymId) (c : Called) (k : Stobjs ℕ) (state : State ℕ)
    → effected lists_keeping c.function.name c.values (option_map number_of x) (record state { stobjs = k }) (seen_done h cs d)
    ≡ answered h c (ready_of d x).effect (record state { stobjs = changed cs (ready_of d x).change k })
effect_answered h cs done.Refuses x c k state = refl
effect_answered h cs (done.Reads w) x c k state = refl
effect_answered h cs (done.ReadsBoth v w) x c k state = refl
effect_answered h cs (done.Writes n) None c k state = refl
effect_answered h cs (done.Writes n) (Some y) c k state = refl

change_within : (h : Objects) (cs : List Cell) (d : Done) (x : Option SymId) → DoneLies h cs d → ChangeWithin cs (ready_of d x).change
change_within h cs done.Refuses x l = tt
change_within h cs (done.Reads w) x l = tt
change_within h cs (done.ReadsBoth v w) x l = tt
change_within h cs (done.Writes n) None l = tt
change_within h cs (done.Writes n) (Some y) l = l

-- what the definition says of a call on what is kept
abbrev pub effect_of : worlds.World → worlds.GeneratedFunction → List (outcomes.Shown ℕ) → StobjList ℕ → Effect ℕ
effect_of w f vs l = effect by_number f.role (field_layout (unwrap_or f.field 0) (stobj_layout itself w f.stobj)) (unwrap_or f.field 0) (ordinary vs) l

answers : (h : Objects) (cs : List Cell) (d : Done) (x : Option SymId) (c : Called) (k : Stobjs ℕ) (state : State ℕ) → option_map number_of x ≡ first_stobj c.values
    → seen_done h cs d ≡ effect_of c.world c.function c.values (list_or_none lists_keeping k (option_map number_of x))
    → called_from lists_keeping c (record state { stobjs = k }) ≡ answered h c (ready_of d x).effect (record state { stobjs = changed cs (ready_of d x).change k })
answers h cs d x c k state e i =
    ap (λ y. effected lists_keeping c.function.name c.values y (record state { stobjs = k }) (effect_of c.world c.function c.values (list_or_none lists_keeping k y))) (sym e)
    ∙ (ap (effected lists_keeping c.function.name c.values (option_map number_of x) (record state { stobjs = k })) (sym i)
    ∙ effect_answered h cs d x c k state)

ready_here : (s : ScopedLists) (h : Objects) (d : Done) (x : Option SymId) (c : Called) (k : Stobjs ℕ) → option_map number_of x ≡ first_stobj c.values → scope s.lists s.bindings.items ≡ k
    → Does h s.lists (effect_of c.world c.function c.values (list_or_none lists_keeping k (option_map number_of x))) d → IsReady s (Some (ready_of d x)) h c
ready_here s h d x c k e j i = record {
  one = ready_of d x;
  is = refl;
  within = change_within h s.lists d x i.lies;
  answers = λ state.
      answers h s.lists d x c (scope s.lists s.bindings.items) state e
      (i.is ∙ ap (λ os. effect_of c.world c.function c.values (list_or_none lists_keeping os (option_map number_of x))) (sym j));
}

ready_is_of : (s : ScopedLists) (h h' : Objects) (d : Done) (x : Option SymId) (w w' : worlds.World) (f : worlds.GeneratedFunction) (vs : List Shown) (k : Stobjs ℕ) (l : StobjList ℕ) → w' ≡ w
    → all_seen h' vs ≡ all_seen h vs → option_map number_of x ≡ first_stobj (all_seen h vs) → scope s.lists s.bindings.items ≡ k → l ≡ list_or_none lists_keeping k (option_map number_of x)
    → Does h' s.lists (effect_of w f (all_seen h vs) l) d → IsReady s (Some (ready_of d x)) h' (record { world = w'; function = f; values = all_seen h' vs })
ready_is_of s h h' d x w w' f vs k l g v e j m i =
    subst (λ (y : worlds.World). IsReady s (Some (ready_of d x)) h' (record { world = y; function = f; values = all_seen h' vs })) (sym g)
    (subst (λ (us : List (outcomes.Shown ℕ)). IsReady s (Some (ready_of d x)) h' (record { world = w; function = f; values = us })) (sym v)
    (ready_here s h' d x (record { world = w; function = f; values = all_seen h vs }) k e j (subst (λ (y : StobjList ℕ). Does h' s.lists (effect_of w f (all_seen h vs) y) d) m i)))

pub ready_is : (s : ScopedLists) (r : Ready) (h h' : Objects) (d : Done) (x : Option SymId) (w w' : worlds.World) (f : worlds.GeneratedFunction) (vs : List Shown) (k : Stobjs ℕ) (l : StobjList ℕ) → r ≡ ready_of d x → w' ≡ w
    → all_seen h' vs ≡ all_seen h vs → option_map number_of x ≡ first_stobj (all_seen h vs) → scope s.lists s.bindings.items ≡ k → l ≡ list_or_none lists_keeping k (option_map number_of x)
    → Does h' s.lists (effect_of w f (all_seen h vs) l) d → IsReady s (Some r) h' (record { world = w'; function = f; values = all_seen h' vs })
ready_is s r h h' d x w w' f vs k l q g v e j m i =
    subst (λ (y : Ready). IsReady s (Some y) h' (record { world = w'; function = f; values = all_seen h' vs })) (sym q) (ready_is_of s h h' d x w w' f vs k l g v e j m i)

-- ---- its symbols are known

fits_by : (h : Objects) (cs : List Cell) (n : ℕ) (d : Done) (x : Option SymId) → DoneLies h cs d → KnowsEffect n (seen_done h cs d) → ReadyFits cs h n (Some (ready_of d x))
fits_by h cs n done.Refuses x l k = (tt, tt)
fits_by h cs n (done.Reads w) x l k = (((l, k.0), tt), tt)
fits_by h cs n (done.ReadsBoth v w) x l k = (((l.0, k.0), ((l.1, k.1.0), tt)), tt)
fits_by h cs n (done.Writes m) None l k = (tt, tt)
fits_by h cs n (done.Writes m) (Some y) l k = (tt, k)

pub ready_fits : (h : Objects) (cs : List Cell) (n : ℕ) (r : Ready) (d : Done) (x : Option SymId) (e : Effect ℕ) → r ≡ ready_of d x → Does h cs e d → KnowsEffect n e → ReadyFits cs h n (Some r)
ready_fits h cs n r d x e q i k = subst (λ (y : Ready). ReadyFits cs h n (Some y)) (sym q) (fits_by h cs n d x i.lies (subst (KnowsEffect n) (sym i.is) k))

known_read : (n : ℕ) (os : Stobjs ℕ) (x : Option ℕ) → KnowsStobjs n os → KnowsList n (list_or_none lists_keeping os x)
known_read n os None i = tt
known_read n os (Some x) i = keeping_knows.read n x os i

pub list_known : (n : ℕ) (k kept : Stobjs ℕ) (x : Option ℕ) (l : StobjList ℕ) → k ≡ kept → KnowsStobjs n kept → l ≡ list_or_none lists_keeping k x → KnowsList n l
list_known n k kept x l e i m = subst (KnowsList n) (sym m) (known_read n k x (subst (KnowsStobjs n) (sym e) i))

pub words_whole : (t : Table) (h : Objects) (ws : List Word) → WordsFit h (length t.symbols) ws → AreWhole t h ws
words_whole t h [] a = tt
words_whole t h (w ∷ ws) a = (record { lies = a.0.0; known = a.0.1 }, words_whole t h ws a.1)

-- ---- the call that is ready

same_ready : (ready : Option Ready) (one r : Ready) → ready ≡ Some one → ready ≡ Some r → one ≡ r
same_ready ready one r e f = let both : Some one ≡ Some r = sym e ∙ f in cc

pub never_ready : (s : ScopedLists) (ready : Option Ready) (h : Objects) (c : Called) → IsReady s ready h c → ready ≡ None → ⊥
never_ready s ready h c i e = let both : None ≡ Some i.one = sym e ∙ i.is in cc

pub call_answers : (s t : ScopedLists) (ready : Option Ready) (r : Ready) (h : Objects) (c : Called) (k : Stobjs ℕ) (ls : List (Stobjs ℕ)) → IsReady s ready h c → ready ≡ Some r → Keeps s k ls
    → ((k : Stobjs ℕ) (ls : List (Stobjs ℕ)) → Keeps s k ls → ChangeWithin s.lists r.change → Keeps t (changed s.lists r.change k) ls) → IsAnswered lists_keeping (Keeps t) h c r.effect k ls
call_answers s t ready r h c k ls i e b f =
    let q : i.one ≡ r = same_ready ready i.one r i.is e in
    record {
      later = changed s.lists r.change k;
      keeps = f k ls b (subst (λ (x : Ready). ChangeWithin s.lists x.change) q i.within);
      answers = λ state.
          ap (λ os. called_from lists_keeping c (record state { stobjs = os })) (sym b.is)
          ∙ (i.answers state
          ∙ (ap (λ (x : Ready). answered h c x.effect (record state { stobjs = changed s.lists x.change (scope s.lists s.bindings.items) })) q
          ∙ ap (λ os. answered h c r.effect (record state { stobjs = changed s.lists r.change os })) b.is));
    }

pub call_whole : (s : ScopedLists) (ready : Option Ready) (r : Ready) (t : Table) (h : Objects) (w : Content) → IsSound s ready h w (length t.symbols) → ready ≡ Some r → AreWhole t h (answer_words r.effect)
call_whole s ready r t h w i e = let f : ReadyFits s.lists h (length t.symbols) (Some r) = subst (ReadyFits s.lists h (length t.symbols)) e i.readies in words_whole t h (answer_words r.effect) f.0

change_known : (cs : List Cell) (n : ℕ) (c : Option Change) (k : Stobjs ℕ) → ChangeFits cs n c → KnowsStobjs n k → KnowsStobjs n (changed cs c k)
change_known cs n None k f i = i
change_known cs n (Some c) k f i = keeping_knows.write n c.variable.0 (list_given cs c.list) k f i

pub call_sound : (s t : ScopedLists) (ready : Option Ready) (r : Ready) (h : Objects) (w : Content) (n : ℕ) (c : Called) → IsSound s ready h w n → IsReady s ready h c → ready ≡ Some r
    → ((k : Stobjs ℕ) (ls : List (Stobjs ℕ)) → Keeps s k ls → ChangeWithin s.lists r.change → Keeps t (changed s.lists r.change k) ls) → IsSound t None h w n
call_sound s t ready r h w n c i p e f =
    let q : p.one ≡ r = same_ready ready p.one r p.is e in
    let fits : ReadyFits s.lists h n (Some r) = subst (ReadyFits s.lists h n) e i.readies in
    sound_by s t ready h w n (changed s.lists r.change i.kept) i.lefts i (f i.kept i.lefts i.keeps (subst (λ (x : Ready). ChangeWithin s.lists x.change) q p.within)) (change_known s.lists n r.change i.kept fits.1 i.known) i.known_lefts
