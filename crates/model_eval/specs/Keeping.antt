-- How the stobjs in scope are kept while forms are evaluated: in which way each is read, written, handed to a call and back,
-- lent, and made for a while (Boyer and Moore, Single-Threaded Objects in ACL2, 2002).
use Rattle.std.specs.Prelude.{ℕ, List, [], ◌∷◌, map, length, Option, nat_eq, if◌then◌else◌}
use Rattle.model_objects.specs.Object.{Object}
use Rattle.model_lists.specs.Lists.{StobjList}
use Rattle.model_eval.specs.Outcomes.{Shown, Plain, StobjNamed, StateOf, OutcomeOf, Gives, Stops, Unknown}

-- a child that is bound: its variable, and the field of its parent, with the index in an array of children
pub record Loan (S : Type 0) : Type 0 where
  pub child : ℕ
  pub parent : ℕ
  pub field : ℕ
  pub index : Option (Object S)

-- stobjs are named by their variables; `B` is what a call leaves behind
pub record Keeping (S O B : Type 0) : Type 0 where
  -- the list of a stobj, and the stobjs with another list of it
  pub read : O → ℕ → StobjList S
  pub write : ℕ → StobjList S → O → O
  -- a call's stobjs, by the names of its formals; what stays behind; and the stobjs after the call
  pub hand_over : List ℕ → List (Shown S) → O → O
  pub behind : O → B
  pub hand_back : List ℕ → List (Shown S) → O → B → O
  -- children as the innermost stobjs; one put into its parent; and the stobjs without the innermost, so many
  pub lend : List (Loan S) → O → O
  pub put : Loan S → O → O
  pub end_loans : ℕ → O → O
  -- a new stobj as the innermost, and without it
  pub make : ℕ → StobjList S → O → O
  pub unmake : O → O
  -- the exec function of an export begins; it ended; or it stopped, and the stobj of the export's call, of which these are the
  -- actuals and what it left behind, is again as it was then
  pub begin_export : O → O
  pub commit : O → O
  pub abandon : List (Shown S) → B → O → O

-- the variable of the actual for a formal
abbrev pub actual_for : {S : Type 0} → List ℕ → List (Shown S) → ℕ → ℕ
actual_for [] actuals x = x
actual_for (y ∷ ys) [] x = x
actual_for (y ∷ ys) (Plain o ∷ vs) x = actual_for ys vs x
actual_for (y ∷ ys) (StobjNamed z ∷ vs) x = if nat_eq x y then z else actual_for ys vs x

abbrev pub outer_value : {S : Type 0} → List ℕ → List (Shown S) → Shown S → Shown S
outer_value formals actuals (Plain o) = Plain o
outer_value formals actuals (StobjNamed x) = StobjNamed (actual_for formals actuals x)

module _ {S O B : Type 0} (keeping : Keeping S O B) where
  -- the state of a call's guard or body, and that after it
  abbrev pub entering : List ℕ → List (Shown S) → StateOf O → StateOf O
  entering formals actuals state = record state { stobjs = keeping.hand_over formals actuals state.stobjs }

  abbrev pub leaving : List ℕ → List (Shown S) → B → StateOf O → StateOf O
  leaving formals actuals behind inner = record inner { stobjs = keeping.hand_back formals actuals inner.stobjs behind }

  -- the outcome of a call's guard or body, as the caller sees it
  abbrev pub handed : List ℕ → List (Shown S) → B → OutcomeOf S O → OutcomeOf S O
  handed formals actuals behind (Gives values inner) = Gives (map (outer_value formals actuals) values) (leaving formals actuals behind inner)
  handed formals actuals behind (Stops stop origin inner) = Stops stop origin (leaving formals actuals behind inner)
  handed formals actuals behind Unknown = Unknown

  abbrev pub put_all : List (Loan S) → O → O
  put_all [] stobjs = stobjs
  put_all (l ∷ ls) stobjs = put_all ls (keeping.put l stobjs)

  abbrev pub ending_loans : ℕ → StateOf O → StateOf O
  ending_loans n state = record state { stobjs = keeping.end_loans n state.stobjs }

  -- after a stop each child's list is in its parent, and after values those are that were put there
  abbrev pub taken_back : List (Loan S) → OutcomeOf S O → OutcomeOf S O
  taken_back loans (Gives values state) = Gives values (ending_loans (length loans) state)
  taken_back loans (Stops stop origin state) = Stops stop origin (ending_loans (length loans) (record state { stobjs = put_all loans state.stobjs }))
  taken_back loans Unknown = Unknown

  abbrev pub unmaking : StateOf O → StateOf O
  unmaking state = record state { stobjs = keeping.unmake state.stobjs }

  abbrev pub beginning : StateOf O → StateOf O
  beginning state = record state { stobjs = keeping.begin_export state.stobjs }

  abbrev pub committing : StateOf O → StateOf O
  committing state = record state { stobjs = keeping.commit state.stobjs }

  abbrev pub abandoning : List (Shown S) → B → StateOf O → StateOf O
  abandoning actuals before state = record state { stobjs = keeping.abandon actuals before state.stobjs }
