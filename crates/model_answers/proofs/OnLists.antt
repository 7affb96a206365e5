-- Lists that correspond go with each other, and back.
use Rattle.std.proofs.Common.{◌≡◌, ℕ, List, [], ◌∷◌, length, Option, Some, None, refl, sym, ap, ◌∙◌, subst}
use Rattle.model_terms.specs.Worlds.{Abstract, AbstractDescriptor, Concrete, Constant, Defined, Definition, Generated, Macro, Named, OfAbstract, Primitive, Signed, World, definition}
use Rattle.model_answers.specs.Beside.{AlikeBy, AnswersAs, AreBeside, GoesWith, StopsAs, named_variables}
use Rattle.model_answers.specs.OnLists.{AnswersOn, FormsAnswerOnLists}
use Rattle.model_follows.specs.AbstractLists.{AreLaidOut}
use Rattle.model_abstract.specs.Corresponding.{CallHolds, Correspond, CorrespondAs}
use Rattle.model_symbols.specs.Growth.{Extends}
use Rattle.model_eval.specs.Outcomes.{Gives, Outcome, Stobjs, Stops, Unknown}
use Rattle.model_follows.proofs.HeldThings.{Ground, IsViewed, ground_book}
use Rattle.model_lists.specs.LiveLists.{HasFields}
use Rattle.model_accepted.specs.StobjScopes.{IsStobj}
use Rattle.model_follows.specs.SymbolLaw.{IsWritten}
use Rattle.model_lists.specs.Layouts.{Layout, recognizes}
use Rattle.model_symbols.specs.Symbols.{QualifiedName, Table, symbol_at}
use Rattle.model_lists.specs.Lists.{StobjList, as_object}
use Rattle.model_logic.specs.Logic.{Thing}
use Rattle.model_follows.specs.Abstract.{abstract_ground, abstract_of}
use Rattle.model_abstract.specs.Rules.{abstractly}
use Rattle.model_answers.proofs.Lists.{beside_at}
use Rattle.model_prims.specs.Kinds.{by_name, by_number}
use Rattle.model_follows.proofs.SymbolLemmas.{call_stays}
use Rattle.model_eval.specs.Checked.{checked}
use Rattle.model_answers.proofs.LawLemmas.{forms_answer}
use Rattle.model_books.specs.ProgramWords.{given}
use Rattle.model_follows.proofs.ListLemmas.{list_named}
use Rattle.model_eval.specs.Variables.{list_of}
use Rattle.model_eval_laws.specs.Scope.{names}
use Rattle.model_symbols.specs.Opening.{nil, nil_name}
use Rattle.model_terms.specs.Rounds.{signed}
use Rattle.model_symbols.proofs.NameLemmas.{symbol_at-is}
use Rattle.model_follows.specs.Follows.{table_of, thing_of_list}
use Rattle.model_follows.specs.Corresponding.{theory_with}

module _ (w : World) (base : Table) (symbols now : List QualifiedName) (written : IsWritten w (length base.symbols)) (laid : AreLaidOut w) (bg : Extends base (table_of base.packages symbols)) (grown : Extends base (table_of base.packages now))
    (at_nil : symbol_at now nil ≡ nil_name) where
  abbrev ground : Ground
  ground = abstract_ground w base symbols

  holds_there : (name : ℕ) (c a : Thing) → CallHolds (theory_with w base now) name (c ∷ a ∷ []) → CallHolds (theory_with w base symbols) name (c ∷ a ∷ [])
  holds_there name c a h = (h.0, call_stays w base now symbols grown bg written name (c ∷ a ∷ []) h.0 h.1, h.2)

  holds_here : (name : ℕ) (c a : Thing) → CallHolds (theory_with w base symbols) name (c ∷ a ∷ []) → CallHolds (theory_with w base now) name (c ∷ a ∷ [])
  holds_here name c a h = (h.0, call_stays w base symbols now bg grown written name (c ∷ a ∷ []) h.0 h.1, h.2)

  goes_by : (x : ℕ) (d : Option Definition) → definition w x ≡ d → (c : StobjList ℕ) (a : StobjList QualifiedName) → CorrespondAs (theory_with w base now) x d c a → GoesWith w (abstract_ground w base symbols) now x c a
  goes_by x None e c a h = absurd h
  goes_by x (Some (Primitive name row)) e c a h = absurd h
  goes_by x (Some (Defined f)) e c a h = absurd h
  goes_by x (Some (Macro name formals other)) e c a h = absurd h
  goes_by x (Some (Constant name value)) e c a h = absurd h
  goes_by x (Some (Concrete d class)) e c a h = record {
    fits = h.fits.fields;
    recognized = h.fits.recognized;
    known = h.fits.known;
    alike = subst (λ (v : Option AbstractDescriptor). AlikeBy (ground_book w (abstract_ground w base symbols)) v now c a) (sym (ap abstract_of e)) h.equal;
  }
  goes_by x (Some (Generated g)) e c a h = absurd h
  goes_by x (Some (Abstract d)) e c a h = record {
    fits = subst (λ (m : Layout ℕ). HasFields m c) (sym (laid.alike x d e)) h.fits.fields;
    recognized = ap (λ (m : Layout ℕ). recognizes by_number m (as_object by_number c)) (laid.alike x d e) ∙ h.fits.recognized;
    known = h.fits.known;
    alike = subst (λ (v : Option AbstractDescriptor). AlikeBy (ground_book w (abstract_ground w base symbols)) v now c a) (sym (ap abstract_of e))
        (record {
          corresponding = holds_there d.corr (thing_of_list now c) (as_object by_name a) (subst (λ (l : Thing). CallHolds (theory_with w base now) d.corr (l ∷ as_object by_name a ∷ [])) (list_named now at_nil c) h.corresponding);
          well_formed = call_stays w base now symbols grown bg written d.recognizer.logic (as_object by_name a ∷ []) _ h.well_formed;
          homes = h.homes;
        });
  }
  goes_by x (Some (OfAbstract f)) e c a h = absurd h
  goes_by x (Some (Named name formals)) e c a h = absurd h
  goes_by x (Some (Signed name formals signed executable)) e c a h = absurd h

  -- and back, where the stobj stood in such lists before
  corresponds_by : (x : ℕ) (d : Option Definition) → definition w x ≡ d → (old : List QualifiedName) (b c : StobjList ℕ) (o a : StobjList QualifiedName) → CorrespondAs (theory_with w base old) x d b o → GoesWith w (abstract_ground w base symbols) now x c a
      → CorrespondAs (theory_with w base now) x d c a
  corresponds_by x None e old b c o a h g = absurd h
  corresponds_by x (Some (Primitive name row)) e old b c o a h g = absurd h
  corresponds_by x (Some (Defined f)) e old b c o a h g = absurd h
  corresponds_by x (Some (Macro name formals other)) e old b c o a h g = absurd h
  corresponds_by x (Some (Constant name value)) e old b c o a h g = absurd h
  corresponds_by x (Some (Concrete d class)) e old b c o a h g = record {
    fits = record { fields = g.fits; recognized = g.recognized; known = g.known };
    equal = subst (λ (v : Option AbstractDescriptor). AlikeBy (ground_book w (abstract_ground w base symbols)) v now c a) (ap abstract_of e) g.alike;
  }
  corresponds_by x (Some (Generated q)) e old b c o a h g = absurd h
  corresponds_by x (Some (Abstract d)) e old b c o a h g =
      let view : IsViewed (ground_book w (abstract_ground w base symbols)) d (thing_of_list now c) (as_object by_name a)
      = subst (λ (v : Option AbstractDescriptor). AlikeBy (ground_book w (abstract_ground w base symbols)) v now c a) (ap abstract_of e) g.alike in
      record {
        fits = record {
          fields = subst (λ (m : Layout ℕ). HasFields m c) (laid.alike x d e) g.fits;
          recognized = ap (λ (m : Layout ℕ). recognizes by_number m (as_object by_number c)) (sym (laid.alike x d e)) ∙ g.recognized;
          known = g.known;
        };
        corresponding = subst (λ (l : Thing). CallHolds (theory_with w base now) d.corr (l ∷ as_object by_name a ∷ [])) (sym (list_named now at_nil c)) (holds_here d.corr (thing_of_list now c) (as_object by_name a) view.corresponding);
        well_formed = call_stays w base symbols now bg grown written d.recognizer.logic (as_object by_name a ∷ []) _ view.well_formed;
        homes = view.homes;
      }
  corresponds_by x (Some (OfAbstract f)) e old b c o a h g = absurd h
  corresponds_by x (Some (Named name formals)) e old b c o a h g = absurd h
  corresponds_by x (Some (Signed name formals signed executable)) e old b c o a h g = absurd h

  pub lists_beside : (cs : Stobjs ℕ) (ms : Stobjs QualifiedName) → Correspond (theory_with w base now) cs ms → AreBeside w (abstract_ground w base symbols) now cs ms
  lists_beside [] [] h = tt
  lists_beside [] (m ∷ ms) h = absurd h
  lists_beside (c ∷ cs) [] h = absurd h
  lists_beside (c ∷ cs) (m ∷ ms) h = (h.0, goes_by c.0 (definition w c.0) refl c.1 m.1 h.1, lists_beside cs ms h.2)

  pub lists_correspond : (old : List QualifiedName) (bs : Stobjs ℕ) (os : Stobjs QualifiedName) (cs : Stobjs ℕ) (ms : Stobjs QualifiedName) → Correspond (theory_with w base old) bs os → names cs ≡ names bs → AreBeside w (abstract_ground w base symbols) now cs ms
      → Correspond (theory_with w base now) cs ms
  lists_correspond old bs os [] [] h e g = tt
  lists_correspond old bs os [] (m ∷ ms) h e g = absurd g
  lists_correspond old bs os (c ∷ cs) [] h e g = absurd g
  lists_correspond old [] os (c ∷ cs) (m ∷ ms) h e g = cc
  lists_correspond old (b ∷ bs) [] (c ∷ cs) (m ∷ ms) h e g = absurd h
  lists_correspond old (b ∷ bs) (o ∷ os) (c ∷ cs) (m ∷ ms) h e g = (
    g.0,
    corresponds_by c.0 (definition w c.0) refl old b.1 c.1 o.1 m.1 (subst (λ (x : ℕ). CorrespondAs (theory_with w base old) x (definition w x) b.1 o.1) (sym (first_same e)) h.1) g.1,
    lists_correspond old bs os cs ms h.2 (rest_same e) g.2,
  )
    where
      first_same : c.0 ∷ names cs ≡ b.0 ∷ names bs → c.0 ≡ b.0
      first_same q = cc

      rest_same : c.0 ∷ names cs ≡ b.0 ∷ names bs → names cs ≡ names bs
      rest_same q = cc

-- ---- the law

answers_on : (w : World) (base : Table) (symbols old : List QualifiedName) (written : IsWritten w (length base.symbols)) (laid : AreLaidOut w) (bg : Extends base (table_of base.packages symbols)) (offset low : ℕ) (bs : Stobjs ℕ) (os : Stobjs QualifiedName)
    → Correspond (theory_with w base old) bs os → (p : Outcome ℕ) (run : ℕ → ℕ → Outcome QualifiedName) → AnswersAs w (abstract_ground w base symbols) offset old (names bs) low p run → AnswersOn w base offset p run
answers_on w base symbols old written laid bg offset low bs os h (Gives given u) run g = record {
  after = g.after;
  correspond = lists_correspond w base symbols u.symbols written laid bg g.together.grown (symbol_at-is u.symbols nil nil_name g.together.truth.at_nil) old bs os u.stobjs g.after.stobjs h g.same_names g.together.lists;
  calls = g.together.calls;
  budget = g.budget;
  runs = g.runs;
}
answers_on w base symbols old written laid bg offset low bs os h (Stops stop origin u) run f = λ e. let g : StopsAs w (abstract_ground w base symbols) offset old (names bs) low stop origin u run = f e in record {
  after = g.after;
  correspond = lists_correspond w base symbols u.symbols written laid bg g.together.grown (symbol_at-is u.symbols nil nil_name g.together.truth.at_nil) old bs os u.stobjs g.after.stobjs h g.same_names g.together.lists;
  calls = g.together.calls;
  budget = g.budget;
  runs = g.runs;
}
answers_on w base symbols old written laid bg offset low bs os h Unknown run g = tt

pub forms_answer_on_lists : FormsAnswerOnLists
forms_answer_on_lists = record {
  answers = λ w base symbols threaded followed written laid bg obligations c mode scope form expected suits seen n accepted formed suited limit d offset variables s a table truth grown are live knows correspond outer calls.
      let lists : AreBeside w (abstract_ground w base symbols) s.symbols s.stobjs a.stobjs
      = lists_beside w base symbols s.symbols written laid bg grown (symbol_at-is s.symbols nil nil_name truth.at_nil) s.stobjs a.stobjs correspond in
      let at : ((x : ℕ) → IsStobj scope x → GoesWith w (abstract_ground w base symbols) s.symbols x (list_of s.stobjs x) (list_of a.stobjs x))
      = λ x i. beside_at w (abstract_ground w base symbols) s.symbols s.stobjs a.stobjs x lists (live.there x i) in
      answers_on w base symbols s.symbols written laid bg offset a.calls s.stobjs a.stobjs correspond (checked w base.packages limit d form variables s)
      (λ m k. abstractly (theory_with w base symbols) m k d form (named_variables s.symbols variables) a)
      (forms_answer.answers w base symbols threaded followed bg obligations c mode scope form expected suits seen n accepted formed suited limit d offset variables s a are
      (record { known = live.there; fits = λ x i. (at x i).fits })
      (record { table = table; truth = truth; grown = grown; known = λ x i. (at x i).known; recognized = λ x i. (at x i).recognized })
      knows
      (record { table = table; truth = truth; grown = grown; lists = lists; outer = outer; calls = calls }));
}
