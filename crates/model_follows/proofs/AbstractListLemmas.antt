-- The logic follows checked evaluation where stobjs may be abstract, in the words of lists that correspond.
use Rattle.std.proofs.Common.{◌≡◌, ℕ, List, [], ◌∷◌, map, length, Bool, true, false, Option, Some, None, refl, sym, ap, ◌∙◌, subst}
use Rattle.std.specs.Prelude.{◌||◌, nat_eq, if◌then◌else◌}
use Rattle.std.proofs.lemmas.Bool.{eqb-true}
use Rattle.model_symbols.specs.Symbols.{QualifiedName, Table, symbol_at, form_of}
use Rattle.model_symbols.specs.Growth.{Extends}
use Rattle.model_symbols.specs.Opening.{nil, nil_name}
use Rattle.model_symbols.proofs.NameLemmas.{symbol_at-is}
use Rattle.model_prims.specs.Kinds.{by_number, by_name}
use Rattle.model_lists.specs.Lists.{StobjList, Value, as_object}
use Rattle.model_lists.specs.Layouts.{Layout, recognizes}
use Rattle.model_lists.specs.LiveLists.{HasFields}
use Rattle.model_terms.specs.Worlds.{World, Definition, Descriptor, AbstractDescriptor, definition, Primitive, Defined, Macro, Constant, Concrete, Generated, Abstract, OfAbstract, Named, Signed, Out, Scope}
use Rattle.model_terms.specs.Worlds as worlds
use Rattle.model_terms.specs.Classes.{has, repeats}
use Rattle.model_eval.specs.Outcomes.{Shown, Plain, StobjNamed, Stobjs}
use Rattle.model_eval.specs.Variables.{variable_in, list_of}
use Rattle.model_eval.specs.Checked.{checked}
use Rattle.model_logic.specs.Logic.{Theory, Thing, EndsWith}
use Rattle.model_abstract.specs.Corresponding.{named_list, CallHolds, CorrespondAs, Correspond}
use Rattle.model_eval_laws.specs.Scope.{names, is_among}
use Rattle.model_eval_laws.proofs.Lists.{same_number}
use Rattle.model_accepted.specs.Threaded.{layout_of}
use Rattle.model_accepted.specs.StobjScopes.{IsStobj, AreOutputs}
use Rattle.model_accepted.proofs.AcceptLemmas.{neither, true_false, false_true}
use Rattle.model_follows.specs.FollowedWorlds.{KnowsList}
use Rattle.model_follows.specs.Follows.{thing_of_list, one_thing, table_of}
use Rattle.model_follows.specs.Corresponding.{Lists, as_thing, theory_with, Follow}
use Rattle.model_follows.specs.SymbolLaw.{IsWritten}
use Rattle.model_follows.specs.Abstract.{abstract_of, abstract_ground, FollowedWith}
use Rattle.model_follows.specs.AbstractLists.{AreLaidOut, FollowInParts, LogicFollowsAbstractOnLists}
use Rattle.model_follows.proofs.HeldThings.{Ground, Held, held, all_held, ground_book, KinBy}
use Rattle.model_follows.proofs.SymbolLemmas.{call_stays}
use Rattle.model_follows.proofs.ListLemmas.{list_named, among_more}
use Rattle.model_follows.proofs.Following.{gives_map}
use Rattle.model_follows.proofs.AbstractLemmas.{logic_follows_abstract}

-- ---- lists one after another

corresponding_at : (b : Theory) (os : Stobjs ℕ) (ls : Lists) (x : ℕ) → Correspond b os ls → is_among x (names os) ≡ true → CorrespondAs b x (definition b.world x) (list_of os x) (list_of ls x)
corresponding_at b [] ls x c h = false_true h
corresponding_at b (o ∷ os) [] x c h = absurd c
corresponding_at b (o ∷ os) (l ∷ ls) x c h = go (nat_eq x o.0) refl h (corresponding_at b os ls x c.2)
  where
    go : (q : Bool) → nat_eq x o.0 ≡ q → (q || is_among x (names os)) ≡ true → (is_among x (names os) ≡ true → CorrespondAs b x (definition b.world x) (list_of os x) (list_of ls x))
        → CorrespondAs b x (definition b.world x) (if q then o.1 else list_of os x) (if nat_eq x l.0 then l.1 else list_of ls x)
    go true e i later =
        subst (λ (m : StobjList QualifiedName). CorrespondAs b x (definition b.world x) o.1 m) (sym (ap (λ (q : Bool). if q then l.1 else list_of ls x) (ap (nat_eq x) (sym c.0) ∙ e)))
        (subst (λ (z : ℕ). CorrespondAs b z (definition b.world z) o.1 l.1) (sym (eqb-true x o.0 e)) c.1)
    go false e i later =
        subst (λ (m : StobjList QualifiedName). CorrespondAs b x (definition b.world x) (list_of os x) m) (sym (ap (λ (q : Bool). if q then l.1 else list_of ls x) (ap (nat_eq x) (sym c.0) ∙ e))) (later i)

-- the list of a stobj of L as a list
abbrev list_by : Option AbstractDescriptor → StobjList QualifiedName → Thing → StobjList QualifiedName
list_by None l t = l
list_by (Some d) l t = Value t

abbrev lists_by : (ℕ → Option AbstractDescriptor) → List QualifiedName → Held → Stobjs ℕ → Lists
lists_by view symbols last os = map (λ (o : ℕ × StobjList ℕ). (o.0, list_by (view o.0) (named_list symbols o.1) (last o.0))) os

list_by_at : (view : ℕ → Option AbstractDescriptor) (symbols : List QualifiedName) (last : Held) (os : Stobjs ℕ) (x : ℕ) → is_among x (names os) ≡ true → list_of (lists_by view symbols last os) x ≡ list_by (view x) (named_list symbols (list_of os x)) (last x)
list_by_at view symbols last [] x h = false_true h
list_by_at view symbols last (o ∷ os) x h = go (nat_eq x o.0) refl h (list_by_at view symbols last os x)
  where
    go : (b : Bool) → nat_eq x o.0 ≡ b → (b || is_among x (names os)) ≡ true → (is_among x (names os) ≡ true → list_of (lists_by view symbols last os) x ≡ list_by (view x) (named_list symbols (list_of os x)) (last x))
        → (if b then list_by (view o.0) (named_list symbols o.1) (last o.0) else list_of (lists_by view symbols last os) x) ≡ list_by (view x) (named_list symbols (if b then o.1 else list_of os x)) (last x)
    go true e i later = ap (λ (z : ℕ). list_by (view z) (named_list symbols o.1) (last z)) (sym (eqb-true x o.0 e))
    go false e i later = later i

correspond_each : (b : Theory) (view : ℕ → Option AbstractDescriptor) (last : Held) (os : Stobjs ℕ) → repeats (names os) ≡ false
    → ((x : ℕ) → is_among x (names os) ≡ true → CorrespondAs b x (definition b.world x) (list_of os x) (list_by (view x) (named_list b.symbols (list_of os x)) (last x))) → Correspond b os (lists_by view b.symbols last os)
correspond_each b view last [] r f = tt
correspond_each b view last (o ∷ os) r f =
    let apart : (has (names os) o.0 ≡ false) × (repeats (names os) ≡ false) = neither (has (names os) o.0) (repeats (names os)) r in
    let first : is_among o.0 (o.0 ∷ names os) ≡ true = ap (λ (q : Bool). q || is_among o.0 (names os)) (same_number o.0) in (
      refl,
      subst (λ (l : StobjList ℕ). CorrespondAs b o.0 (definition b.world o.0) l (list_by (view o.0) (named_list b.symbols l) (last o.0))) (ap (λ (q : Bool). if q then o.1 else list_of os o.0) (same_number o.0)) (f o.0 first),
      correspond_each b view last os apart.1
          (λ y i. subst (λ (l : StobjList ℕ). CorrespondAs b y (definition b.world y) l (list_by (view y) (named_list b.symbols l) (last y))) (ap (λ (q : Bool). if q then o.1 else list_of os y) (different y i apart.0))
          (f y (among_more y o.0 (names os) i))),
    )
  where
    different : (y : ℕ) → is_among y (names os) ≡ true → has (names os) o.0 ≡ false → nat_eq y o.0 ≡ false
    different y i e = go (nat_eq y o.0) refl
      where
        go : (q : Bool) → nat_eq y o.0 ≡ q → q ≡ false
        go true g = true_false (sym i ∙ (ap (λ (z : ℕ). is_among z (names os)) (eqb-true y o.0 g) ∙ e))
        go false g = refl

-- ---- one stobj

module _ (w : World) (base : Table) (symbols now : List QualifiedName) (written : IsWritten w (length base.symbols)) (laid : AreLaidOut w) (bg : Extends base (table_of base.packages symbols)) (grown : Extends base (table_of base.packages now))
    (at_nil : symbol_at now nil ≡ nil_name) where
  -- what is known of C's list
  record IsSoundList (x : ℕ) (c : StobjList ℕ) : Type 0 where
    fields : HasFields (layout_of w x) c
    recognized : recognizes by_number (layout_of w x) (as_object by_number c) ≡ true
    known : KnowsList (length now) c

  abbrev IsKin : ℕ → Option Definition → StobjList ℕ → Thing → Type 0
  IsKin x d c t = KinBy (ground_book w (abstract_ground w base symbols)) (abstract_of d) (thing_of_list now c) t

  holds_there : (name : ℕ) (c a : Thing) → CallHolds (theory_with w base now) name (c ∷ a ∷ []) → CallHolds (theory_with w base symbols) name (c ∷ a ∷ [])
  holds_there name c a h = (h.0, call_stays w base now symbols grown bg written name (c ∷ a ∷ []) h.0 h.1, h.2)

  holds_here : (name : ℕ) (c a : Thing) → CallHolds (theory_with w base symbols) name (c ∷ a ∷ []) → CallHolds (theory_with w base now) name (c ∷ a ∷ [])
  holds_here name c a h = (h.0, call_stays w base symbols now bg grown written name (c ∷ a ∷ []) h.0 h.1, h.2)

  -- a stobj that stands in lists that correspond
  from_lists : (x : ℕ) (d : Option Definition) → definition w x ≡ d → (c : StobjList ℕ) (a : StobjList QualifiedName) → CorrespondAs (theory_with w base now) x d c a → IsSoundList x c × IsKin x d c (as_object by_name a)
  from_lists x None e c a h = absurd h
  from_lists x (Some (Primitive name row)) e c a h = absurd h
  from_lists x (Some (Defined f)) e c a h = absurd h
  from_lists x (Some (Macro name formals body)) e c a h = absurd h
  from_lists x (Some (Constant name value)) e c a h = absurd h
  from_lists x (Some (Concrete d class)) e c a h = (
    record { fields = h.fits.fields; recognized = h.fits.recognized; known = h.fits.known },
    ap (as_object by_name) (sym h.equal) ∙ list_named now at_nil c,
  )
  from_lists x (Some (Generated g)) e c a h = absurd h
  from_lists x (Some (Abstract d)) e c a h = (
    record {
      fields = subst (λ (m : Layout ℕ). HasFields m c) (sym (laid.alike x d e)) h.fits.fields;
      recognized = ap (λ (m : Layout ℕ). recognizes by_number m (as_object by_number c)) (laid.alike x d e) ∙ h.fits.recognized;
      known = h.fits.known;
    },
    record {
      corresponding = holds_there d.corr (thing_of_list now c) (as_object by_name a) (subst (λ (l : Thing). CallHolds (theory_with w base now) d.corr (l ∷ as_object by_name a ∷ [])) (list_named now at_nil c) h.corresponding);
      well_formed = call_stays w base now symbols grown bg written d.recognizer.logic (as_object by_name a ∷ []) _ h.well_formed;
      homes = h.homes;
    },
  )
  from_lists x (Some (OfAbstract f)) e c a h = absurd h
  from_lists x (Some (Named name formals)) e c a h = absurd h
  from_lists x (Some (Signed name formals signature executable)) e c a h = absurd h

  -- and back, where it stood in such lists before
  to_lists : (x : ℕ) (d : Option Definition) → definition w x ≡ d → (old : List QualifiedName) (b c : StobjList ℕ) (a : StobjList QualifiedName) → CorrespondAs (theory_with w base old) x d b a → IsSoundList x c → (t : Thing) → IsKin x d c t
      → CorrespondAs (theory_with w base now) x d c (list_by (abstract_of d) (named_list now c) t) × (as_object by_name (list_by (abstract_of d) (named_list now c) t) ≡ t)
  to_lists x None e old b c a h s t k = absurd h
  to_lists x (Some (Primitive name row)) e old b c a h s t k = absurd h
  to_lists x (Some (Defined f)) e old b c a h s t k = absurd h
  to_lists x (Some (Macro name formals body)) e old b c a h s t k = absurd h
  to_lists x (Some (Constant name value)) e old b c a h s t k = absurd h
  to_lists x (Some (Concrete d class)) e old b c a h s t k = (record { fits = record { fields = s.fields; recognized = s.recognized; known = s.known }; equal = refl }, list_named now at_nil c ∙ sym k)
  to_lists x (Some (Generated g)) e old b c a h s t k = absurd h
  to_lists x (Some (Abstract d)) e old b c a h s t k = (
    record {
      fits = record {
        fields = subst (λ (m : Layout ℕ). HasFields m c) (laid.alike x d e) s.fields;
        recognized = ap (λ (m : Layout ℕ). recognizes by_number m (as_object by_number c)) (sym (laid.alike x d e)) ∙ s.recognized;
        known = s.known;
      };
      corresponding = subst (λ (l : Thing). CallHolds (theory_with w base now) d.corr (l ∷ t ∷ [])) (sym (list_named now at_nil c)) (holds_here d.corr (thing_of_list now c) t k.corresponding);
      well_formed = call_stays w base symbols now bg grown written d.recognizer.logic (t ∷ []) _ k.well_formed;
      homes = k.homes;
    },
    refl,
  )
  to_lists x (Some (OfAbstract f)) e old b c a h s t k = absurd h
  to_lists x (Some (Named name formals)) e old b c a h s t k = absurd h
  to_lists x (Some (Signed name formals signature executable)) e old b c a h s t k = absurd h

-- ---- the law

things_are : (scope : Scope) (symbols : List QualifiedName) (last : Lists) (lists : Held) → ((x : ℕ) → IsStobj scope x → as_object by_name (list_of last x) ≡ lists x)
    → (kinds : List Out) (given : List (Shown ℕ)) → AreOutputs scope kinds given → map (as_thing symbols last) given ≡ all_held symbols lists given
things_are scope symbols last lists l [] [] a = refl
things_are scope symbols last lists l [] (v ∷ vs) a = absurd a
things_are scope symbols last lists l (q ∷ ks) [] a = absurd a
things_are scope symbols last lists l (q ∷ ks) (Plain o ∷ vs) a = ap (λ (ts : List Thing). form_of symbols o ∷ ts) (things_are scope symbols last lists l ks vs a.1)
things_are scope symbols last lists l (worlds.Ordinary ∷ ks) (StobjNamed y ∷ vs) a = absurd a.0
things_are scope symbols last lists l (worlds.Stobj x ∷ ks) (StobjNamed y ∷ vs) a = rw (l y (subst (IsStobj scope) (sym a.0.0) a.0.1), things_are scope symbols last lists l ks vs a.1) refl

shown_held : (symbols : List QualifiedName) (lists : Lists) (v : Shown ℕ) → as_thing symbols lists v ≡ held symbols (λ x. as_object by_name (list_of lists x)) v
shown_held symbols lists (Plain o) = refl
shown_held symbols lists (StobjNamed x) = refl

pub follows_abstract_on_lists : LogicFollowsAbstractOnLists
follows_abstract_on_lists = record {
  follows = λ w base symbols threaded followed written laid bg obligations c mode scope form expected suits seen_in n accepted formed suited k d variables s lists values table truth grown are live correspond vals.
      let ground : Ground = abstract_ground w base symbols in
      let before : Held = λ x. as_object by_name (list_of lists x) in
      let old_nil : symbol_at s.symbols nil ≡ nil_name = symbol_at-is s.symbols nil nil_name truth.at_nil in
      let stood : ((x : ℕ) → IsStobj scope x → CorrespondAs (theory_with w base s.symbols) x (definition w x) (list_of s.stobjs x) (list_of lists x))
      = λ x o. corresponding_at (theory_with w base s.symbols) s.stobjs lists x correspond (live.there x o) in
      let at : ((x : ℕ) → IsStobj scope x → IsSoundList w base symbols s.symbols written laid bg grown old_nil x (list_of s.stobjs x) × IsKin w base symbols s.symbols written laid bg grown old_nil x (definition w x) (list_of s.stobjs x) (before x))
      = λ x o. from_lists w base symbols s.symbols written laid bg grown old_nil x (definition w x) refl (list_of s.stobjs x) (list_of lists x) (stood x o) in
      gives_map (FollowedWith w ground scope expected form values s before) (FollowInParts w base (theory_with w base symbols) scope expected form values lists) (checked w base.packages k d form variables s)
      (λ given u e.
      let last : Lists = lists_by ground.view u.symbols e.last u.stobjs in
      let now_nil : symbol_at u.symbols nil ≡ nil_name = symbol_at-is u.symbols nil nil_name e.sound.truth.at_nil in
      let there : ((x : ℕ) → IsStobj scope x → is_among x (names u.stobjs) ≡ true) = λ x o. ap (is_among x) e.same_names ∙ live.there x o in
      let back : ((x : ℕ) → IsStobj scope x → CorrespondAs (theory_with w base u.symbols) x (definition w x) (list_of u.stobjs x) (list_by (ground.view x) (named_list u.symbols (list_of u.stobjs x)) (e.last x))
      × (as_object by_name (list_by (ground.view x) (named_list u.symbols (list_of u.stobjs x)) (e.last x)) ≡ e.last x))
      = λ x o. to_lists w base symbols u.symbols written laid bg e.sound.grown now_nil x (definition w x) refl s.symbols (list_of s.stobjs x) (list_of u.stobjs x) (list_of lists x) (stood x o)
      (record { fields = e.fits x o; recognized = e.sound.recognized x o; known = e.sound.known x o }) (e.last x) (e.kin.each x o).kin in
      let lists_are : ((x : ℕ) → IsStobj scope x → as_object by_name (list_of last x) ≡ e.last x) = λ x o. ap (as_object by_name) (list_by_at ground.view u.symbols e.last u.stobjs x (there x o)) ∙ (back x o).1 in
      record {
        last = last;
        correspond =
            correspond_each (theory_with w base u.symbols) ground.view e.last u.stobjs (ap repeats e.same_names ∙ live.once) (λ x i. (back x (live.only x (sym (ap (is_among x) e.same_names) ∙ i))).0);
        leaves = λ x o h. lists_are x o ∙ e.leaves x h;
        value = e.value;
        ends = e.ends;
        parts = e.parts ∙ sym (things_are scope u.symbols last e.last lists_are expected given e.outputs);
      })
      (logic_follows_abstract.follows w base symbols threaded followed bg obligations c mode scope form expected suits seen_in n accepted formed suited k d variables s before values are
      (record { known = live.there; fits = λ x o. (at x o).0.fields })
      (record { table = table; truth = truth; grown = grown; known = λ x o. (at x o).0.known; recognized = λ x o. (at x o).0.recognized })
      (record { each = λ x o. record { kin = (at x o).1 } })
      (record { known = vals.known; same = λ x m i. vals.same x m i ∙ shown_held s.symbols lists (variable_in by_number variables x) }));
}
