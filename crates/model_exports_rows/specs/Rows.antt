-- Whole books: the program's words, an input, what is written, and the status. Written by tools/rows.py.
use Rattle.std.specs.Prelude.{◌≡◌, ℕ, List, [], ◌∷◌, ◌++◌, codes}
use Rattle.acl_base.specs.declared.status.Status.TheVariants.{Done, Errors}
use Rattle.model_books.specs.Output.{output, lines}

-- children inside
abbrev pub children_inside_input : List ℕ
children_inside_input = lines (codes "(defstobj kid (x :type integer :initially 0))" ∷ codes "(defstobj st$c (k :type kid))" ∷ codes "(defun st$ap (a) (consp a))" ∷ codes "(defun create-st$a () '(0))" ∷ codes "(defun-nx st$corr (st$c a) (equal st$c a))" ∷ codes "(defun put$a (v a) (declare (xargs :guard (integerp v))) (cons v 'nil))" ∷ codes "(defun put$c (v st$c) (declare (xargs :stobjs st$c)) (stobj-let ((kid (k st$c))) (kid) (let ((kid (update-x 7 kid))) (update-x (car v) kid)) st$c))" ∷ codes "(defabsstobj st :exports (put))" ∷ codes "(put 5 st)" ∷ codes "(:show st)" ∷ [])

abbrev pub children_inside_written : List ℕ
children_inside_written = lines (codes "KID" ∷ codes "ST$C" ∷ codes "ST$AP" ∷ codes "CREATE-ST$A" ∷ codes "ST$CORR" ∷ codes "PUT$A" ∷ codes "PUT$C" ∷ codes "ST" ∷ codes "CREATE-ST{CORRESPONDENCE}: (ST$CORR (CREATE-ST$C) (CREATE-ST$A))" ∷ codes "CREATE-ST{PRESERVED}: (ST$AP (CREATE-ST$A))" ∷ codes "PUT{CORRESPONDENCE}: (IMPLIES (AND (ST$CORR ST$C ST) (INTEGERP V)) (ST$CORR (PUT$C V ST$C) (PUT$A V ST)))" ∷ codes "PUT{PRESERVED}: (IMPLIES (AND (ST$AP ST) (INTEGERP V)) (ST$AP (PUT$A V ST)))" ∷ codes "Guard violation: (CAR 5) inside PUT" ∷ codes "((0))" ∷ codes "; 10 commands, 6 calls, 1 errors" ∷ [])

pub record ChildrenInside : Type 0 where
  pub is_written : output ([]) children_inside_input ≡ record { bytes = children_inside_written; status = Errors }

-- depth inside
abbrev pub depth_inside_input : List ℕ
depth_inside_input = lines (codes "(defstobj st$c (x :type integer :initially 0))" ∷ codes "(defun st$ap (a) (consp a))" ∷ codes "(defun create-st$a () '(0))" ∷ codes "(defun-nx st$corr (st$c a) (equal st$c a))" ∷ codes "(defun put$a (v a) (declare (xargs :guard (integerp v))) (cons v 'nil))" ∷ codes "(defun put$c (v st$c) (declare (xargs :stobjs st$c)) (let ((st$c (update-x 7 st$c))) (update-x (car (cons v 'nil)) st$c)))" ∷ codes "(defabsstobj st :exports (put))" ∷ codes "(put 5 st)" ∷ codes "(:show st)" ∷ [])

abbrev pub depth_inside_written : List ℕ
depth_inside_written = lines (codes "ST$C" ∷ codes "ST$AP" ∷ codes "CREATE-ST$A" ∷ codes "ST$CORR" ∷ codes "PUT$A" ∷ codes "PUT$C" ∷ codes "ST" ∷ codes "CREATE-ST{CORRESPONDENCE}: (ST$CORR (CREATE-ST$C) (CREATE-ST$A))" ∷ codes "CREATE-ST{PRESERVED}: (ST$AP (CREATE-ST$A))" ∷ codes "PUT{CORRESPONDENCE}: (IMPLIES (AND (ST$CORR ST$C ST) (INTEGERP V)) (ST$CORR (PUT$C V ST$C) (PUT$A V ST)))" ∷ codes "PUT{PRESERVED}: (IMPLIES (AND (ST$AP ST) (INTEGERP V)) (ST$AP (PUT$A V ST)))" ∷ codes "Nesting limit inside PUT" ∷ codes "(0)" ∷ codes "; 9 commands, 4 calls, 1 errors" ∷ [])

pub record DepthInside : Type 0 where
  pub is_written : output (codes "--depth=4" ∷ []) depth_inside_input ≡ record { bytes = depth_inside_written; status = Errors }

-- export in a consumer
abbrev pub export_in_a_consumer_input : List ℕ
export_in_a_consumer_input = lines (codes "(defstobj st$c (x :type integer :initially 0))" ∷ codes "(defun st$ap (a) (consp a))" ∷ codes "(defun create-st$a () '(0))" ∷ codes "(defun-nx st$corr (st$c a) (equal st$c a))" ∷ codes "(defun put$a (v a) (declare (xargs :guard (integerp v))) (cons v 'nil))" ∷ codes "(defun put$c (v st$c) (declare (xargs :stobjs st$c)) (let ((st$c (update-x 7 st$c))) (update-x (car v) st$c)))" ∷ codes "(defabsstobj st :exports (put))" ∷ codes "(defstobj kid (w :type integer :initially 0))" ∷ codes "(defstobj par (k :type kid))" ∷ codes "(stobj-let ((kid (k par))) (kid) (update-w 3 kid) (let ((st (put 5 st))) (mv par st)))" ∷ codes "(:show par)" ∷ codes "(:show st)" ∷ [])

abbrev pub export_in_a_consumer_written : List ℕ
export_in_a_consumer_written = lines (codes "ST$C" ∷ codes "ST$AP" ∷ codes "CREATE-ST$A" ∷ codes "ST$CORR" ∷ codes "PUT$A" ∷ codes "PUT$C" ∷ codes "ST" ∷ codes "CREATE-ST{CORRESPONDENCE}: (ST$CORR (CREATE-ST$C) (CREATE-ST$A))" ∷ codes "CREATE-ST{PRESERVED}: (ST$AP (CREATE-ST$A))" ∷ codes "PUT{CORRESPONDENCE}: (IMPLIES (AND (ST$CORR ST$C ST) (INTEGERP V)) (ST$CORR (PUT$C V ST$C) (PUT$A V ST)))" ∷ codes "PUT{PRESERVED}: (IMPLIES (AND (ST$AP ST) (INTEGERP V)) (ST$AP (PUT$A V ST)))" ∷ codes "KID" ∷ codes "PAR" ∷ codes "Guard violation: (CAR 5) inside PUT" ∷ codes "((3))" ∷ codes "(0)" ∷ codes "; 12 commands, 8 calls, 1 errors" ∷ [])

pub record ExportInAConsumer : Type 0 where
  pub is_written : output ([]) export_in_a_consumer_input ≡ record { bytes = export_in_a_consumer_written; status = Errors }

-- export in an export
abbrev pub export_in_an_export_input : List ℕ
export_in_an_export_input = lines (codes "(defstobj tt$c (y :type integer :initially 0))" ∷ codes "(defun tt$ap (a) (consp a))" ∷ codes "(defun create-tt$a () '(0))" ∷ codes "(defun-nx tt$corr (tt$c a) (equal tt$c a))" ∷ codes "(defun tput$a (v a) (cons v 'nil))" ∷ codes "(defun tput$c (v tt$c) (declare (xargs :stobjs tt$c)) (let ((tt$c (update-y 3 tt$c))) (update-y (car v) tt$c)))" ∷ codes "(defabsstobj tt :exports (tput))" ∷ codes "(defstobj st$c (x :type integer :initially 0))" ∷ codes "(defun st$ap (a) (consp a))" ∷ codes "(defun create-st$a () '(0))" ∷ codes "(defun-nx st$corr (st$c a) (equal st$c a))" ∷ codes "(defun put$a (v a) (cons v 'nil))" ∷ codes "(defun put$c (v st$c) (declare (xargs :stobjs st$c)) (let ((st$c (update-x 7 st$c))) (let ((n (with-local-stobj tt (mv-let (r tt) (let ((tt (tput v tt))) (mv 1 tt)) r)))) (update-x n st$c))))" ∷ codes "(defabsstobj st :exports (put))" ∷ codes "(put 5 st)" ∷ codes "(:show st)" ∷ codes "(put '(5) st)" ∷ codes "(:show st)" ∷ codes "(:show tt)" ∷ [])

abbrev pub export_in_an_export_written : List ℕ
export_in_an_export_written = lines (codes "TT$C" ∷ codes "TT$AP" ∷ codes "CREATE-TT$A" ∷ codes "TT$CORR" ∷ codes "TPUT$A" ∷ codes "TPUT$C" ∷ codes "TT" ∷ codes "CREATE-TT{CORRESPONDENCE}: (TT$CORR (CREATE-TT$C) (CREATE-TT$A))" ∷ codes "CREATE-TT{PRESERVED}: (TT$AP (CREATE-TT$A))" ∷ codes "TPUT{CORRESPONDENCE}: (IMPLIES (TT$CORR TT$C TT) (TT$CORR (TPUT$C V TT$C) (TPUT$A V TT)))" ∷ codes "TPUT{PRESERVED}: (IMPLIES (TT$AP TT) (TT$AP (TPUT$A V TT)))" ∷ codes "ST$C" ∷ codes "ST$AP" ∷ codes "CREATE-ST$A" ∷ codes "ST$CORR" ∷ codes "PUT$A" ∷ codes "PUT$C" ∷ codes "ST" ∷ codes "CREATE-ST{CORRESPONDENCE}: (ST$CORR (CREATE-ST$C) (CREATE-ST$A))" ∷ codes "CREATE-ST{PRESERVED}: (ST$AP (CREATE-ST$A))" ∷ codes "PUT{CORRESPONDENCE}: (IMPLIES (ST$CORR ST$C ST) (ST$CORR (PUT$C V ST$C) (PUT$A V ST)))" ∷ codes "PUT{PRESERVED}: (IMPLIES (ST$AP ST) (ST$AP (PUT$A V ST)))" ∷ codes "Guard violation: (CAR 5) inside PUT" ∷ codes "(0)" ∷ codes "<st>" ∷ codes "(1)" ∷ codes "(0)" ∷ codes "; 19 commands, 18 calls, 1 errors" ∷ [])

pub record ExportInAnExport : Type 0 where
  pub is_written : output ([]) export_in_an_export_input ≡ record { bytes = export_in_an_export_written; status = Errors }

-- guard inside
abbrev pub guard_inside_input : List ℕ
guard_inside_input = lines (codes "(defstobj st$c (x :type integer :initially 0))" ∷ codes "(defun st$ap (a) (consp a))" ∷ codes "(defun create-st$a () '(0))" ∷ codes "(defun-nx st$corr (st$c a) (equal st$c a))" ∷ codes "(defun put$a (v a) (declare (xargs :guard (integerp v))) (cons v 'nil))" ∷ codes "(defun put$c (v st$c) (declare (xargs :stobjs st$c)) (let ((st$c (update-x 7 st$c))) (update-x (car v) st$c)))" ∷ codes "(defabsstobj st :exports (put))" ∷ codes "(put 5 st)" ∷ codes "(:show st)" ∷ codes "(put 'a st)" ∷ codes "(:show st)" ∷ [])

abbrev pub guard_inside_written : List ℕ
guard_inside_written = lines (codes "ST$C" ∷ codes "ST$AP" ∷ codes "CREATE-ST$A" ∷ codes "ST$CORR" ∷ codes "PUT$A" ∷ codes "PUT$C" ∷ codes "ST" ∷ codes "CREATE-ST{CORRESPONDENCE}: (ST$CORR (CREATE-ST$C) (CREATE-ST$A))" ∷ codes "CREATE-ST{PRESERVED}: (ST$AP (CREATE-ST$A))" ∷ codes "PUT{CORRESPONDENCE}: (IMPLIES (AND (ST$CORR ST$C ST) (INTEGERP V)) (ST$CORR (PUT$C V ST$C) (PUT$A V ST)))" ∷ codes "PUT{PRESERVED}: (IMPLIES (AND (ST$AP ST) (INTEGERP V)) (ST$AP (PUT$A V ST)))" ∷ codes "Guard violation: (CAR 5) inside PUT" ∷ codes "(0)" ∷ codes "Guard violation: (PUT A <st>)" ∷ codes "(0)" ∷ codes "; 11 commands, 7 calls, 2 errors" ∷ [])

pub record GuardInside : Type 0 where
  pub is_written : output ([]) guard_inside_input ≡ record { bytes = guard_inside_written; status = Errors }

-- large inside
abbrev pub large_inside_input : List ℕ
large_inside_input = lines (codes "(defstobj st$c (x :type integer :initially 0))" ∷ codes "(defun st$ap (a) (consp a))" ∷ codes "(defun create-st$a () '(0))" ∷ codes "(defun-nx st$corr (st$c a) (equal st$c a))" ∷ codes "(defun put$a (v a) (declare (xargs :guard (integerp v))) (cons v 'nil))" ∷ codes "(defun put$c (v st$c) (declare (xargs :stobjs st$c)) (let ((st$c (update-x 7 st$c))) (update-x (car (update-nth 1048577 v 'nil)) st$c)))" ∷ codes "(defabsstobj st :exports (put))" ∷ codes "(put 5 st)" ∷ codes "(:show st)" ∷ [])

abbrev pub large_inside_written : List ℕ
large_inside_written = lines (codes "ST$C" ∷ codes "ST$AP" ∷ codes "CREATE-ST$A" ∷ codes "ST$CORR" ∷ codes "PUT$A" ∷ codes "PUT$C" ∷ codes "ST" ∷ codes "CREATE-ST{CORRESPONDENCE}: (ST$CORR (CREATE-ST$C) (CREATE-ST$A))" ∷ codes "CREATE-ST{PRESERVED}: (ST$AP (CREATE-ST$A))" ∷ codes "PUT{CORRESPONDENCE}: (IMPLIES (AND (ST$CORR ST$C ST) (INTEGERP V)) (ST$CORR (PUT$C V ST$C) (PUT$A V ST)))" ∷ codes "PUT{PRESERVED}: (IMPLIES (AND (ST$AP ST) (INTEGERP V)) (ST$AP (PUT$A V ST)))" ∷ codes "Too large: UPDATE-NTH inside PUT" ∷ codes "(0)" ∷ codes "; 9 commands, 5 calls, 1 errors" ∷ [])

pub record LargeInside : Type 0 where
  pub is_written : output ([]) large_inside_input ≡ record { bytes = large_inside_written; status = Errors }

-- range inside
abbrev pub range_inside_input : List ℕ
range_inside_input = lines (codes "(defstobj st$c (x :type integer :initially 0))" ∷ codes "(defun st$ap (a) (consp a))" ∷ codes "(defun create-st$a () '(0))" ∷ codes "(defun-nx st$corr (st$c a) (equal st$c a))" ∷ codes "(defun put$a (v a) (declare (xargs :guard (integerp v))) (cons v 'nil))" ∷ codes "(defun put$c (v st$c) (declare (xargs :stobjs st$c)) (let ((st$c (update-x 7 st$c))) (update-x (binary-+ v 170141183460469231731687303715884105727) st$c)))" ∷ codes "(defabsstobj st :exports (put))" ∷ codes "(put 5 st)" ∷ codes "(:show st)" ∷ codes "(put 0 st)" ∷ codes "(:show st)" ∷ [])

abbrev pub range_inside_written : List ℕ
range_inside_written = lines (codes "ST$C" ∷ codes "ST$AP" ∷ codes "CREATE-ST$A" ∷ codes "ST$CORR" ∷ codes "PUT$A" ∷ codes "PUT$C" ∷ codes "ST" ∷ codes "CREATE-ST{CORRESPONDENCE}: (ST$CORR (CREATE-ST$C) (CREATE-ST$A))" ∷ codes "CREATE-ST{PRESERVED}: (ST$AP (CREATE-ST$A))" ∷ codes "PUT{CORRESPONDENCE}: (IMPLIES (AND (ST$CORR ST$C ST) (INTEGERP V)) (ST$CORR (PUT$C V ST$C) (PUT$A V ST)))" ∷ codes "PUT{PRESERVED}: (IMPLIES (AND (ST$AP ST) (INTEGERP V)) (ST$AP (PUT$A V ST)))" ∷ codes "Out of range: BINARY-+ inside PUT" ∷ codes "(0)" ∷ codes "<st>" ∷ codes "(170141183460469231731687303715884105727)" ∷ codes "; 11 commands, 11 calls, 1 errors" ∷ [])

pub record RangeInside : Type 0 where
  pub is_written : output ([]) range_inside_input ≡ record { bytes = range_inside_written; status = Errors }

-- steps at the end
abbrev pub steps_at_the_end_input : List ℕ
steps_at_the_end_input = lines (codes "(defstobj st$c (x :type integer :initially 0))" ∷ codes "(defun st$ap (a) (consp a))" ∷ codes "(defun create-st$a () '(0))" ∷ codes "(defun-nx st$corr (st$c a) (equal st$c a))" ∷ codes "(defun put$a (v a) (declare (xargs :guard (integerp v))) (cons v 'nil))" ∷ codes "(defun put$c (v st$c) (declare (xargs :stobjs st$c)) (let ((st$c (update-x 7 st$c))) (update-x v st$c)))" ∷ codes "(defabsstobj st :exports (put))" ∷ codes "(put 5 st)" ∷ codes "(:show st)" ∷ [])

abbrev pub steps_at_the_end_written : List ℕ
steps_at_the_end_written = lines (codes "ST$C" ∷ codes "ST$AP" ∷ codes "CREATE-ST$A" ∷ codes "ST$CORR" ∷ codes "PUT$A" ∷ codes "PUT$C" ∷ codes "ST" ∷ codes "CREATE-ST{CORRESPONDENCE}: (ST$CORR (CREATE-ST$C) (CREATE-ST$A))" ∷ codes "CREATE-ST{PRESERVED}: (ST$AP (CREATE-ST$A))" ∷ codes "PUT{CORRESPONDENCE}: (IMPLIES (AND (ST$CORR ST$C ST) (INTEGERP V)) (ST$CORR (PUT$C V ST$C) (PUT$A V ST)))" ∷ codes "PUT{PRESERVED}: (IMPLIES (AND (ST$AP ST) (INTEGERP V)) (ST$AP (PUT$A V ST)))" ∷ codes "<st>" ∷ codes "(5)" ∷ codes "; 9 commands, 5 calls, 0 errors" ∷ [])

pub record StepsAtTheEnd : Type 0 where
  pub is_written : output (codes "--steps=5" ∷ []) steps_at_the_end_input ≡ record { bytes = steps_at_the_end_written; status = Done }

-- steps at the exec call
abbrev pub steps_at_the_exec_call_input : List ℕ
steps_at_the_exec_call_input = lines (codes "(defstobj st$c (x :type integer :initially 0))" ∷ codes "(defun st$ap (a) (consp a))" ∷ codes "(defun create-st$a () '(0))" ∷ codes "(defun-nx st$corr (st$c a) (equal st$c a))" ∷ codes "(defun put$a (v a) (declare (xargs :guard (integerp v))) (cons v 'nil))" ∷ codes "(defun put$c (v st$c) (declare (xargs :stobjs st$c)) (let ((st$c (update-x 7 st$c))) (update-x v st$c)))" ∷ codes "(defabsstobj st :exports (put))" ∷ codes "(put 5 st)" ∷ codes "(:show st)" ∷ [])

abbrev pub steps_at_the_exec_call_written : List ℕ
steps_at_the_exec_call_written = lines (codes "ST$C" ∷ codes "ST$AP" ∷ codes "CREATE-ST$A" ∷ codes "ST$CORR" ∷ codes "PUT$A" ∷ codes "PUT$C" ∷ codes "ST" ∷ codes "CREATE-ST{CORRESPONDENCE}: (ST$CORR (CREATE-ST$C) (CREATE-ST$A))" ∷ codes "CREATE-ST{PRESERVED}: (ST$AP (CREATE-ST$A))" ∷ codes "PUT{CORRESPONDENCE}: (IMPLIES (AND (ST$CORR ST$C ST) (INTEGERP V)) (ST$CORR (PUT$C V ST$C) (PUT$A V ST)))" ∷ codes "PUT{PRESERVED}: (IMPLIES (AND (ST$AP ST) (INTEGERP V)) (ST$AP (PUT$A V ST)))" ∷ codes "Step limit" ∷ codes "(0)" ∷ codes "; 9 commands, 2 calls, 1 errors" ∷ [])

pub record StepsAtTheExecCall : Type 0 where
  pub is_written : output (codes "--steps=2" ∷ []) steps_at_the_exec_call_input ≡ record { bytes = steps_at_the_exec_call_written; status = Errors }

-- steps in the guard
abbrev pub steps_in_the_guard_input : List ℕ
steps_in_the_guard_input = lines (codes "(defstobj st$c (x :type integer :initially 0))" ∷ codes "(defun st$ap (a) (consp a))" ∷ codes "(defun create-st$a () '(0))" ∷ codes "(defun-nx st$corr (st$c a) (equal st$c a))" ∷ codes "(defun put$a (v a) (declare (xargs :guard (integerp v))) (cons v 'nil))" ∷ codes "(defun put$c (v st$c) (declare (xargs :stobjs st$c)) (let ((st$c (update-x 7 st$c))) (update-x v st$c)))" ∷ codes "(defabsstobj st :exports (put))" ∷ codes "(put 5 st)" ∷ codes "(:show st)" ∷ [])

abbrev pub steps_in_the_guard_written : List ℕ
steps_in_the_guard_written = lines (codes "ST$C" ∷ codes "ST$AP" ∷ codes "CREATE-ST$A" ∷ codes "ST$CORR" ∷ codes "PUT$A" ∷ codes "PUT$C" ∷ codes "ST" ∷ codes "CREATE-ST{CORRESPONDENCE}: (ST$CORR (CREATE-ST$C) (CREATE-ST$A))" ∷ codes "CREATE-ST{PRESERVED}: (ST$AP (CREATE-ST$A))" ∷ codes "PUT{CORRESPONDENCE}: (IMPLIES (AND (ST$CORR ST$C ST) (INTEGERP V)) (ST$CORR (PUT$C V ST$C) (PUT$A V ST)))" ∷ codes "PUT{PRESERVED}: (IMPLIES (AND (ST$AP ST) (INTEGERP V)) (ST$AP (PUT$A V ST)))" ∷ codes "Step limit" ∷ codes "(0)" ∷ codes "; 9 commands, 1 calls, 1 errors" ∷ [])

pub record StepsInTheGuard : Type 0 where
  pub is_written : output (codes "--steps=1" ∷ []) steps_in_the_guard_input ≡ record { bytes = steps_in_the_guard_written; status = Errors }

-- steps inside
abbrev pub steps_inside_input : List ℕ
steps_inside_input = lines (codes "(defstobj st$c (x :type integer :initially 0))" ∷ codes "(defun st$ap (a) (consp a))" ∷ codes "(defun create-st$a () '(0))" ∷ codes "(defun-nx st$corr (st$c a) (equal st$c a))" ∷ codes "(defun put$a (v a) (declare (xargs :guard (integerp v))) (cons v 'nil))" ∷ codes "(defun put$c (v st$c) (declare (xargs :stobjs st$c)) (let ((st$c (update-x 7 st$c))) (update-x v st$c)))" ∷ codes "(defabsstobj st :exports (put))" ∷ codes "(put 5 st)" ∷ codes "(:show st)" ∷ [])

abbrev pub steps_inside_written : List ℕ
steps_inside_written = lines (codes "ST$C" ∷ codes "ST$AP" ∷ codes "CREATE-ST$A" ∷ codes "ST$CORR" ∷ codes "PUT$A" ∷ codes "PUT$C" ∷ codes "ST" ∷ codes "CREATE-ST{CORRESPONDENCE}: (ST$CORR (CREATE-ST$C) (CREATE-ST$A))" ∷ codes "CREATE-ST{PRESERVED}: (ST$AP (CREATE-ST$A))" ∷ codes "PUT{CORRESPONDENCE}: (IMPLIES (AND (ST$CORR ST$C ST) (INTEGERP V)) (ST$CORR (PUT$C V ST$C) (PUT$A V ST)))" ∷ codes "PUT{PRESERVED}: (IMPLIES (AND (ST$AP ST) (INTEGERP V)) (ST$AP (PUT$A V ST)))" ∷ codes "Step limit inside PUT" ∷ codes "(0)" ∷ codes "; 9 commands, 4 calls, 1 errors" ∷ [])

pub record StepsInside : Type 0 where
  pub is_written : output (codes "--steps=4" ∷ []) steps_inside_input ≡ record { bytes = steps_inside_written; status = Errors }

-- stops in macros and constants
abbrev pub stops_in_macros_and_constants_input : List ℕ
stops_in_macros_and_constants_input = lines (codes "(defstobj st$c (x :type integer :initially 0))" ∷ codes "(defun st$ap (a) (consp a))" ∷ codes "(defun create-st$a () '(0))" ∷ codes "(defun-nx st$corr (st$c a) (equal st$c a))" ∷ codes "(defun put$a (v a) (cons v 'nil))" ∷ codes "(defun put$c (v st$c) (declare (xargs :stobjs st$c)) (let ((st$c (update-x 7 st$c))) (update-x (car v) st$c)))" ∷ codes "(defabsstobj st :exports (put))" ∷ codes "(defun f (v) (with-local-stobj st (mv-let (r st) (let ((st (put v st))) (mv 1 st)) r)))" ∷ codes "(defmacro m (v) (f v))" ∷ codes "(m 5)" ∷ codes "(defconst *k* (f 5))" ∷ codes "(f 5)" ∷ codes "(:show st)" ∷ [])

abbrev pub stops_in_macros_and_constants_written : List ℕ
stops_in_macros_and_constants_written = lines (codes "ST$C" ∷ codes "ST$AP" ∷ codes "CREATE-ST$A" ∷ codes "ST$CORR" ∷ codes "PUT$A" ∷ codes "PUT$C" ∷ codes "ST" ∷ codes "CREATE-ST{CORRESPONDENCE}: (ST$CORR (CREATE-ST$C) (CREATE-ST$A))" ∷ codes "CREATE-ST{PRESERVED}: (ST$AP (CREATE-ST$A))" ∷ codes "PUT{CORRESPONDENCE}: (IMPLIES (ST$CORR ST$C ST) (ST$CORR (PUT$C V ST$C) (PUT$A V ST)))" ∷ codes "PUT{PRESERVED}: (IMPLIES (ST$AP ST) (ST$AP (PUT$A V ST)))" ∷ codes "F" ∷ codes "M" ∷ codes "Refused: MacroStopped: Guard violation: (CAR 5) inside PUT" ∷ codes "Guard violation: (CAR 5) inside PUT" ∷ codes "Guard violation: (CAR 5) inside PUT" ∷ codes "(0)" ∷ codes "; 13 commands, 19 calls, 3 errors" ∷ [])

pub record StopsInMacrosAndConstants : Type 0 where
  pub is_written : output ([]) stops_in_macros_and_constants_input ≡ record { bytes = stops_in_macros_and_constants_written; status = Errors }
