-- An example of a run with every kind of step on the words: each step may be made from the table that it
-- finds.
use Rattle.std.proofs.Common.{◌≡◌, ◌≢◌, inl, inr, true, false, List, [], ◌∷◌, refl, ltb-true, ℕ, ◌++◌}
use Rattle.std.specs.Prelude.{Some, None, Option}
use Rattle.kf_core.specs.declared.command.Command.TheVariants.{Doom}
use Rattle.kf_words.specs.declared.note.Note.TheVariants.{Did}
use Rattle.kf_core.specs.declared.caller.Phase.TheVariants.{Still, Turned, Running, Broken, Restored, Drained, Parted, Hiding, Hidden, Spent}
use Rattle.kf_words.specs.TableSteps.{Table, births, breaks, hides, leaves, loads_hold, looks, looks_hidden, looks_over, marks_node, parts, pins_hold, releases, sees_holds, counts_hold, shares, restores, shows, sleeps, awakes, loads_sleepers, splits, stores_fresh, takes_bias, tries, undoes, unlinks, unpins_hold, notes, reports, answers, compares, WordStep, sees_holds_at, counts_hold_at, hands_on, stores_node, reads_node}
use Rattle.kf_words.specs.declared.view.CallerView.{CallerView}
use Rattle.kf_words.specs.declared.view.MasterView.{MasterView}
use Rattle.kf_words.specs.Steps.{spent_hold}
use Rattle.kf_words.specs.Life.{with_marks_of, caller_at, master_at, table_at, table_with, with_one_more, WordLife, next_caller}
use Rattle.kf_words.specs.declared.view.Load.{Load}

still_holds : Still ≢ Spent
still_holds e = let x : Still ≡ Spent = e in cc

abbrev t0 : Table
t0 = table_at 4294967296 0 (master_at 0 (None) (None) (None) ([]) ([]) (None)) ([])

abbrev t1 : Table
t1 = table_at 4294967296 0 (master_at 0 (None) (None) (None) (record { slot = 1; word = 0 } ∷ []) ([]) (None)) ([])

abbrev t2 : Table
t2 = table_at 4294967296 0 (master_at 0 (None) (None) (Some 1) (record { slot = 1; word = 0 } ∷ []) ([]) (None)) ([])

abbrev t3 : Table
t3 = table_at 4294967296 6442450944 (master_at 1 (Some (with_marks_of false false)) (None) (None) ([]) (record { slot = 1; word = 0 } ∷ []) (None)) ([])

abbrev t4 : Table
t4 = table_at 0 6442450944 (master_at 1 (Some (with_marks_of true false)) (None) (None) ([]) (record { slot = 1; word = 0 } ∷ []) (None)) ([])

abbrev t5 : Table
t5 = table_at 0 6442450944 (master_at 1 (Some (with_marks_of true false)) (None) (None) (record { slot = 1; word = 6442450944 } ∷ []) (record { slot = 1; word = 0 } ∷ []) (None)) ([])

abbrev t6 : Table
t6 = table_at 0 6442450945 (master_at 1 (Some (with_marks_of true false)) (Some 1) (None) ([]) (record { slot = 1; word = 0 } ∷ []) (None)) ([])

abbrev t7 : Table
t7 = table_at 0 6442450945 (master_at 1 (Some (with_marks_of true false)) (None) (None) ([]) (record { slot = 1; word = 0 } ∷ []) (None)) ((caller_at Still 0 0 0 false) ∷ [])

abbrev t8 : Table
t8 = table_at 0 6442450945 (master_at 1 (Some (with_marks_of true false)) (None) (None) (record { slot = 1; word = 6442450945 } ∷ []) (record { slot = 1; word = 0 } ∷ []) (None)) ((caller_at Still 0 0 0 false) ∷ [])

abbrev t9 : Table
t9 = table_at 0 6442450946 (master_at 1 (Some (with_marks_of true false)) (Some 1) (None) ([]) (record { slot = 1; word = 0 } ∷ []) (None)) ((caller_at Still 0 0 0 false) ∷ [])

abbrev t10 : Table
t10 = table_at 0 6442450946 (master_at 1 (Some (with_marks_of true false)) (None) (None) ([]) (record { slot = 1; word = 0 } ∷ []) (None)) ((caller_at Still 0 0 0 false) ∷ (caller_at Still 0 0 0 false) ∷ [])

abbrev t11 : Table
t11 = table_at 1 6442450946 (master_at 1 (Some (with_marks_of true false)) (None) (None) ([]) (record { slot = 1; word = 0 } ∷ []) (None)) ((caller_at Running 1 1 0 false) ∷ (caller_at Still 0 0 0 false) ∷ [])

abbrev t12 : Table
t12 = table_at 17179869185 6442450946 (master_at 1 (Some (with_marks_of true false)) (None) (None) ([]) (record { slot = 1; word = 0 } ∷ []) (None)) ((caller_at Running 1 1 0 false) ∷ (caller_at Hiding 1 0 1 false) ∷ [])

abbrev t13 : Table
t13 = table_at 17179869185 6442450946 (master_at 1 (Some (with_marks_of true false)) (None) (None) ([]) (record { slot = 1; word = 0 } ∷ []) (None)) ((caller_at Running 1 1 0 false) ∷ (caller_at Hiding 2 0 17179869185 false) ∷ [])

abbrev t14 : Table
t14 = table_at 17179869184 6442450946 (master_at 1 (Some (with_marks_of true false)) (None) (None) ([]) (record { slot = 1; word = 0 } ∷ []) (None)) ((caller_at Still 2 1 17179869185 false) ∷ (caller_at Hiding 2 0 17179869185 false) ∷ [])

abbrev t15 : Table
t15 = table_at 17179869184 6442450946 (master_at 1 (Some (with_marks_of true false)) (None) (None) ([]) (record { slot = 1; word = 0 } ∷ []) (None)) ((caller_at Still 2 1 17179869185 false) ∷ (caller_at Hidden 3 0 17179869184 false) ∷ [])

abbrev t16 : Table
t16 = table_at 17179869185 6442450946 (master_at 1 (Some (with_marks_of true false)) (None) (None) ([]) (record { slot = 1; word = 0 } ∷ []) (None)) ((caller_at Turned 3 2 17179869184 true) ∷ (caller_at Hidden 3 0 17179869184 false) ∷ [])

abbrev t17 : Table
t17 = table_at 17179869184 6442450946 (master_at 1 (Some (with_marks_of true false)) (None) (None) ([]) (record { slot = 1; word = 0 } ∷ []) (None)) ((caller_at Turned 4 2 17179869184 false) ∷ (caller_at Hidden 3 0 17179869184 false) ∷ [])

abbrev t18 : Table
t18 = table_at 0 6442450946 (master_at 1 (Some (with_marks_of true false)) (None) (None) ([]) (record { slot = 1; word = 0 } ∷ []) (None)) ((caller_at Turned 4 2 17179869184 false) ∷ (caller_at Still 4 0 17179869184 false) ∷ [])

abbrev t19 : Table
t19 = table_at 1 6442450946 (master_at 1 (Some (with_marks_of true false)) (None) (None) ([]) (record { slot = 1; word = 0 } ∷ []) (None)) ((caller_at Running 5 3 0 false) ∷ (caller_at Still 4 0 17179869184 false) ∷ [])

abbrev t20 : Table
t20 = table_at 12884901889 6442450946 (master_at 1 (Some (with_marks_of true true)) (None) (None) ([]) (record { slot = 1; word = 0 } ∷ []) (None)) ((caller_at Running 5 3 0 false) ∷ (caller_at Still 4 0 17179869184 false) ∷ [])

abbrev t21 : Table
t21 = table_at 12884901890 6442450946 (master_at 1 (Some (with_marks_of true true)) (None) (None) ([]) (record { slot = 1; word = 0 } ∷ []) (None)) ((caller_at Running 5 3 0 false) ∷ (caller_at Turned 5 1 12884901889 true) ∷ [])

abbrev t22 : Table
t22 = table_at 12884901889 6442450946 (master_at 1 (Some (with_marks_of true true)) (None) (None) ([]) (record { slot = 1; word = 0 } ∷ []) (None)) ((caller_at Running 5 3 0 false) ∷ (caller_at Turned 6 1 12884901889 false) ∷ [])

abbrev t23 : Table
t23 = table_at 12884901888 6442450946 (master_at 1 (Some (with_marks_of true true)) (None) (None) ([]) (record { slot = 1; word = 0 } ∷ []) (None)) ((caller_at Broken 6 3 12884901889 false) ∷ (caller_at Turned 6 1 12884901889 false) ∷ [])

-- the two tables while caller 1 sleeps: before the last user gives up its reference, and after that
abbrev a22 : Table
a22 = table_with 12884901889 6442450946 1 (master_at 1 (Some (with_marks_of true true)) (None) (None) ([]) (record { slot = 1; word = 0 } ∷ []) (None)) ((caller_at Running 5 3 0 false) ∷ (caller_at Turned 6 1 12884901889 false) ∷ [])

abbrev a23 : Table
a23 = table_with 12884901888 6442450946 1 (master_at 1 (Some (with_marks_of true true)) (None) (None) ([]) (record { slot = 1; word = 0 } ∷ []) (None)) ((caller_at Broken 6 3 12884901889 false) ∷ (caller_at Turned 6 1 12884901889 false) ∷ [])

abbrev t24 : Table
t24 = table_at 12884901888 6442450946 (master_at 1 (Some (with_marks_of true true)) (None) (None) ([]) (record { slot = 1; word = 0 } ∷ []) (None)) ((caller_at Broken 6 3 12884901889 false) ∷ (caller_at Drained 7 1 12884901888 false) ∷ [])

abbrev t25 : Table
t25 = table_at 12884901889 6442450946 (master_at 1 (Some (with_marks_of true true)) (None) (None) ([]) (record { slot = 1; word = 0 } ∷ []) (None)) ((caller_at Restored 7 3 12884901888 false) ∷ (caller_at Drained 7 1 12884901888 false) ∷ [])

abbrev t26 : Table
t26 = table_at 12884901889 6442450946 (master_at 1 (Some (with_marks_of true true)) (None) (None) ([]) (record { slot = 1; word = 0 } ∷ []) (None)) ((caller_at Restored 7 3 12884901888 false) ∷ (caller_at Drained 8 1 6442450946 false) ∷ [])

abbrev t27 : Table
t27 = table_at 12884901889 6442450946 (master_at 1 (Some (with_marks_of true true)) (None) (None) ([]) (record { slot = 1; word = 0 } ∷ []) (Some (record { slot = 1; word = 12884901889 }))) ((caller_at Restored 7 3 12884901888 false) ∷ (caller_at Drained 8 1 6442450946 false) ∷ [])

abbrev t28 : Table
t28 = table_at 12884901888 6442450946 (master_at 1 (Some (with_marks_of true true)) (None) (None) ([]) (record { slot = 1; word = 0 } ∷ []) (Some (record { slot = 1; word = 12884901889 }))) ((caller_at Still 8 3 12884901889 false) ∷ (caller_at Drained 8 1 6442450946 false) ∷ [])

abbrev t29 : Table
t29 = table_at 12884901888 6442450946 (master_at 1 (Some (with_marks_of true true)) (None) (None) ([]) (record { slot = 1; word = 0 } ∷ []) (Some (record { slot = 1; word = 12884901888 }))) ((caller_at Still 8 3 12884901889 false) ∷ (caller_at Drained 8 1 6442450946 false) ∷ [])

abbrev t30 : Table
t30 = table_at 12884901888 4294967298 (master_at 1 (None) (None) (None) ([]) (record { slot = 1; word = 0 } ∷ []) (None)) ((caller_at Still 8 3 12884901889 false) ∷ (caller_at Drained 8 1 6442450946 false) ∷ [])

abbrev t31 : Table
t31 = table_at 12884901888 4294967298 (master_at 1 (None) (None) (None) ([]) (record { slot = 1; word = 0 } ∷ []) (None)) ((caller_at Still 8 3 12884901889 false) ∷ (caller_at Parted 9 1 4294967298 false) ∷ [])

-- the node has left the tree: caller 0 finds no room for another hold, and then counts one
abbrev b31 : Table
b31 = table_at 12884901888 4294967298 (master_at 1 (None) (None) (None) ([]) (record { slot = 1; word = 0 } ∷ []) (None)) ((caller_at Still 9 3 4294967298 false) ∷ (caller_at Parted 9 1 4294967298 false) ∷ [])

abbrev t32 : Table
t32 = table_at 12884901888 4294967297 (master_at 1 (None) (None) (None) ([]) (record { slot = 1; word = 0 } ∷ []) (None)) ((caller_at Still 9 3 4294967298 false) ∷ (caller_at Spent 10 1 4294967298 false) ∷ [])

abbrev c32 : Table
c32 = table_at 12884901888 4294967298 (master_at 1 (None) (None) (None) ([]) (record { slot = 1; word = 0 } ∷ []) (None)) (with_one_more (caller_at Still 10 3 4294967297 false) ∷ (caller_at Spent 10 1 4294967298 false) ∷ [])

abbrev d32 : Table
d32 = table_at 12884901888 4294967298 (master_at 1 (None) (None) (None) ([]) (record { slot = 1; word = 0 } ∷ []) (None)) ((caller_at Still 10 3 4294967297 false) ∷ (caller_at Spent 10 1 4294967298 false) ∷ (caller_at Still 0 0 0 false) ∷ [])

abbrev e32 : Table
e32 = table_at 12884901888 4294967297 (master_at 1 (None) (None) (None) ([]) (record { slot = 1; word = 0 } ∷ []) (None)) ((caller_at Still 10 3 4294967297 false) ∷ (caller_at Spent 10 1 4294967298 false) ∷ (caller_at Spent 1 0 4294967298 false) ∷ [])

abbrev t33 : Table
t33 = table_at 12884901888 4294967296 (master_at 1 (None) (None) (None) ([]) (record { slot = 1; word = 0 } ∷ []) (None)) ((caller_at Spent 11 3 4294967297 false) ∷ (caller_at Spent 10 1 4294967298 false) ∷ (caller_at Spent 1 0 4294967298 false) ∷ [])

abbrev t34 : Table
t34 = table_at 12884901888 4294967296 (master_at 1 (None) (None) (None) (record { slot = 1; word = 4294967296 } ∷ []) (record { slot = 1; word = 0 } ∷ []) (None)) ((caller_at Spent 11 3 4294967297 false) ∷ (caller_at Spent 10 1 4294967298 false) ∷ (caller_at Spent 1 0 4294967298 false) ∷ [])

abbrev t35 : Table
t35 = table_at 4294967296 4294967296 (master_at 1 (None) (None) (Some 1) (record { slot = 1; word = 4294967296 } ∷ []) (record { slot = 1; word = 0 } ∷ []) (None)) ((caller_at Spent 11 3 4294967297 false) ∷ (caller_at Spent 10 1 4294967298 false) ∷ (caller_at Spent 1 0 4294967298 false) ∷ [])

abbrev t36 : Table
t36 = table_at 4294967296 10737418240 (master_at 2 (Some (with_marks_of false false)) (None) (None) ([]) (record { slot = 1; word = 4294967296 } ∷ []) (None)) ((caller_at Spent 11 3 4294967297 false) ∷ (caller_at Spent 10 1 4294967298 false) ∷ (caller_at Spent 1 0 4294967298 false) ∷ [])

abbrev t37 : Table
t37 = table_at 4294967296 10737418240 (master_at 2 (Some (with_marks_of false false)) (None) (None) (record { slot = 1; word = 10737418240 } ∷ []) (record { slot = 1; word = 4294967296 } ∷ []) (None)) ((caller_at Spent 11 3 4294967297 false) ∷ (caller_at Spent 10 1 4294967298 false) ∷ (caller_at Spent 1 0 4294967298 false) ∷ [])

abbrev t38 : Table
t38 = table_at 4294967296 10737418241 (master_at 2 (Some (with_marks_of false false)) (Some 1) (None) ([]) (record { slot = 1; word = 4294967296 } ∷ []) (None)) ((caller_at Spent 11 3 4294967297 false) ∷ (caller_at Spent 10 1 4294967298 false) ∷ (caller_at Spent 1 0 4294967298 false) ∷ [])

abbrev t39 : Table
t39 = table_at 4294967296 10737418240 (master_at 2 (Some (with_marks_of false false)) (None) (None) ([]) (record { slot = 1; word = 4294967296 } ∷ []) (None)) ((caller_at Spent 11 3 4294967297 false) ∷ (caller_at Spent 10 1 4294967298 false) ∷ (caller_at Spent 1 0 4294967298 false) ∷ [])

s0 : WordStep t0 (loads_hold 1) t1
s0 = (master_at 0 (None) (None) (None) ([]) ([]) (None), ltb-true 1 2 refl, record { there = refl; fits = ltb-true 0 18446744073709551616 refl; becomes = refl })

s1 : WordStep t1 (stores_fresh 1) t2
s1 = (master_at 0 (None) (None) (None) (record { slot = 1; word = 0 } ∷ []) ([]) (None), (ltb-true 1 2 refl, (0, record { slot = 1; word = 0 }, refl, refl, (refl, ltb-true 0 4294967295 refl))), record { there = refl; fits = ltb-true 4294967296 18446744073709551616 refl; becomes = refl })

s2 : WordStep t2 (births 1) t3
s2 = (master_at 0 (None) (None) (Some 1) (record { slot = 1; word = 0 } ∷ []) ([]) (None), (ltb-true 1 2 refl, refl), record { there = refl; fits = ltb-true 0 18446744073709551616 refl; becomes = refl })

s3 : WordStep t3 (takes_bias 1) t4
s3 = (master_at 1 (Some (with_marks_of false false)) (None) (None) ([]) (record { slot = 1; word = 0 } ∷ []) (None), (record { generation = 1; marks = Some (with_marks_of false false) }, refl, refl), record { there = refl; fits = ltb-true 4294967296 18446744073709551616 refl; becomes = refl })

s4 : WordStep t4 (loads_hold 1) t5
s4 = (master_at 1 (Some (with_marks_of true false)) (None) (None) ([]) (record { slot = 1; word = 0 } ∷ []) (None), ltb-true 1 2 refl, record { there = refl; fits = ltb-true 6442450944 18446744073709551616 refl; becomes = refl })

s5 : WordStep t5 (pins_hold 1) t6
s5 = (master_at 1 (Some (with_marks_of true false)) (None) (None) (record { slot = 1; word = 6442450944 } ∷ []) (record { slot = 1; word = 0 } ∷ []) (None), (ltb-true 1 2 refl, refl, (0, record { slot = 1; word = 6442450944 }, refl, refl, ltb-true 0 3 refl)), record { there = refl; fits = ltb-true 6442450944 18446744073709551616 refl; becomes = refl })

s6 : WordStep t6 (splits 1) t7
s6 = (master_at 1 (Some (with_marks_of true false)) (Some 1) (None) ([]) (record { slot = 1; word = 0 } ∷ []) (None), refl, ltb-true 1 2 refl, refl, refl)

s7 : WordStep t7 (loads_hold 1) t8
s7 = (master_at 1 (Some (with_marks_of true false)) (None) (None) ([]) (record { slot = 1; word = 0 } ∷ []) (None), ltb-true 1 2 refl, record { there = refl; fits = ltb-true 6442450945 18446744073709551616 refl; becomes = refl })

s8 : WordStep t8 (pins_hold 1) t9
s8 = (master_at 1 (Some (with_marks_of true false)) (None) (None) (record { slot = 1; word = 6442450945 } ∷ []) (record { slot = 1; word = 0 } ∷ []) (None), (ltb-true 1 2 refl, refl, (0, record { slot = 1; word = 6442450945 }, refl, refl, ltb-true 1 3 refl)), record { there = refl; fits = ltb-true 6442450945 18446744073709551616 refl; becomes = refl })

s9 : WordStep t9 (splits 1) t10
s9 = (master_at 1 (Some (with_marks_of true false)) (Some 1) (None) ([]) (record { slot = 1; word = 0 } ∷ []) (None), refl, ltb-true 1 2 refl, refl, refl)

s10 : WordStep t10 (tries 0) t11
s10 = (caller_at Still 0 0 0 false, (refl, refl), record { there = refl; fits = ltb-true 0 18446744073709551616 refl; becomes = refl })

s11 : WordStep t11 (hides 1) t12
s11 = (caller_at Still 0 0 0 false, (refl, refl), record { there = refl; fits = ltb-true 1 18446744073709551616 refl; becomes = refl })

s12 : WordStep t12 (looks_hidden 1) t13
s12 = (caller_at Hiding 1 0 1 false, (refl, refl), record { there = refl; fits = ltb-true 17179869185 18446744073709551616 refl; becomes = refl })

s13 : WordStep t13 (leaves 0) t14
s13 = (caller_at Running 1 1 0 false, (refl, refl), record { there = refl; fits = ltb-true 17179869185 18446744073709551616 refl; becomes = refl })

s14 : WordStep t14 (looks_hidden 1) t15
s14 = (caller_at Hiding 2 0 17179869185 false, (refl, refl), record { there = refl; fits = ltb-true 17179869184 18446744073709551616 refl; becomes = refl })

s15 : WordStep t15 (tries 0) t16
s15 = (caller_at Still 2 1 17179869185 false, (refl, refl), record { there = refl; fits = ltb-true 17179869184 18446744073709551616 refl; becomes = refl })

s16 : WordStep t16 (undoes 0) t17
s16 = (caller_at Turned 3 2 17179869184 true, (refl, refl), record { there = refl; fits = ltb-true 17179869185 18446744073709551616 refl; becomes = refl })

s17 : WordStep t17 (shows 1) t18
s17 = (caller_at Hidden 3 0 17179869184 false, (refl, refl), record { there = refl; fits = ltb-true 17179869184 18446744073709551616 refl; becomes = refl })

s18 : WordStep t18 (tries 0) t19
s18 = (caller_at Turned 4 2 17179869184 false, (refl, refl), record { there = refl; fits = ltb-true 0 18446744073709551616 refl; becomes = refl })

n19 : WordStep t19 (notes (Did (Doom (record { slot = 1; generation = 1 })))) t19
n19 = ((master_at 1 (Some (with_marks_of true false)) (None) (None) ([]) (record { slot = 1; word = 0 } ∷ []) (None), refl), refl)

s19 : WordStep t19 (marks_node 1) t20
s19 = (with_marks_of true false, (master_at 1 (Some (with_marks_of true false)) (None) (None) ([]) (record { slot = 1; word = 0 } ∷ []) (None), ((record { generation = 1; marks = Some (with_marks_of true false) }, refl, refl), refl), record { there = refl; fits = ltb-true 1 18446744073709551616 refl; becomes = refl }))

s20 : WordStep t20 (tries 1) t21
s20 = (caller_at Still 4 0 17179869184 false, (refl, refl), record { there = refl; fits = ltb-true 12884901889 18446744073709551616 refl; becomes = refl })

s21 : WordStep t21 (undoes 1) t22
s21 = (caller_at Turned 5 1 12884901889 true, (refl, refl), record { there = refl; fits = ltb-true 12884901890 18446744073709551616 refl; becomes = refl })

s22 : WordStep t22 (sleeps 1 1) a22
s22 = (caller_at Turned 6 1 12884901889 false, refl, record { there = refl; fits = ltb-true 0 18446744073709551616 refl; becomes = refl })

a_breaks : WordStep a22 (breaks 0) a23
a_breaks = (caller_at Running 5 3 0 false, (refl, refl), record { there = refl; fits = ltb-true 12884901889 18446744073709551616 refl; becomes = refl })

loads_count : WordStep a23 (loads_sleepers 1 0) a23
loads_count = (caller_at Broken 6 3 12884901889 false, refl, record { there = refl; fits = ltb-true 1 18446744073709551616 refl; becomes = refl })

awake : WordStep a23 (awakes 1 1) t23
awake = (caller_at Turned 6 1 12884901889 false, refl, record { there = refl; fits = ltb-true 1 18446744073709551616 refl; becomes = refl })

s23 : WordStep t23 (looks 1) t24
s23 = (caller_at Turned 6 1 12884901889 false, (refl, refl), record { there = refl; fits = ltb-true 12884901888 18446744073709551616 refl; becomes = refl })

s24 : WordStep t24 (restores 0) t25
s24 = (caller_at Broken 6 3 12884901889 false, (refl, refl), record { there = refl; fits = ltb-true 12884901888 18446744073709551616 refl; becomes = refl })

s25 : WordStep t25 (parts 1) t26
s25 = (caller_at Drained 7 1 12884901888 false, (refl, refl), record { there = refl; fits = ltb-true 6442450946 18446744073709551616 refl; becomes = refl })

s26 : WordStep t26 (looks_over 1) t27
s26 = (master_at 1 (Some (with_marks_of true true)) (None) (None) ([]) (record { slot = 1; word = 0 } ∷ []) (None), ltb-true 1 2 refl, record { there = refl; fits = ltb-true 12884901889 18446744073709551616 refl; becomes = refl })

s27 : WordStep t27 (leaves 0) t28
s27 = (caller_at Restored 7 3 12884901888 false, (refl, refl), record { there = refl; fits = ltb-true 12884901889 18446744073709551616 refl; becomes = refl })

s28 : WordStep t28 (looks_over 1) t29
s28 = (master_at 1 (Some (with_marks_of true true)) (None) (None) ([]) (record { slot = 1; word = 0 } ∷ []) (Some (record { slot = 1; word = 12884901889 })), ltb-true 1 2 refl, record { there = refl; fits = ltb-true 12884901888 18446744073709551616 refl; becomes = refl })

s29 : WordStep t29 (unlinks 1) t30
s29 = (master_at 1 (Some (with_marks_of true true)) (None) (None) ([]) (record { slot = 1; word = 0 } ∷ []) (Some (record { slot = 1; word = 12884901888 })), ((with_marks_of true true, (record { generation = 1; marks = Some (with_marks_of true true) }, refl, refl)), (12884901888, refl, refl)), record { there = refl; fits = ltb-true 6442450946 18446744073709551616 refl; becomes = refl })

s30 : WordStep t30 (parts 1) t31
s30 = (caller_at Drained 8 1 6442450946 false, (refl, refl), record { there = refl; fits = ltb-true 4294967298 18446744073709551616 refl; becomes = refl })

s31 : WordStep t31 (sees_holds 0) b31
s31 = (caller_at Still 8 3 12884901889 false, (refl, refl), record { there = refl; fits = ltb-true 4294967298 18446744073709551616 refl; becomes = refl })

b_releases : WordStep b31 (releases 1) t32
b_releases = (caller_at Parted 9 1 4294967298 false, (refl, refl), record { there = refl; fits = ltb-true 4294967298 18446744073709551616 refl; becomes = refl })

c_counts : WordStep t32 (counts_hold 0) c32
c_counts = (caller_at Still 9 3 4294967298 false, ((refl, refl), refl, ltb-true 2 3 refl), record { there = refl; fits = ltb-true 4294967297 18446744073709551616 refl; becomes = refl })

d_shares : WordStep c32 (shares 0) d32
d_shares = (with_one_more (caller_at Still 10 3 4294967297 false), ((refl, refl), refl), refl, refl)

e_releases : WordStep d32 (releases 2) e32
e_releases = (caller_at Still 0 0 0 false, (refl, refl), record { there = refl; fits = ltb-true 4294967298 18446744073709551616 refl; becomes = refl })

s32 : WordStep e32 (releases 0) t33
s32 = (caller_at Still 10 3 4294967297 false, (refl, refl), record { there = refl; fits = ltb-true 4294967297 18446744073709551616 refl; becomes = refl })

s33 : WordStep t33 (loads_hold 1) t34
s33 = (master_at 1 (None) (None) (None) ([]) (record { slot = 1; word = 0 } ∷ []) (None), ltb-true 1 2 refl, record { there = refl; fits = ltb-true 4294967296 18446744073709551616 refl; becomes = refl })

s34 : WordStep t34 (stores_fresh 1) t35
s34 = (master_at 1 (None) (None) (None) (record { slot = 1; word = 4294967296 } ∷ []) (record { slot = 1; word = 0 } ∷ []) (None), (ltb-true 1 2 refl, (0, record { slot = 1; word = 4294967296 }, refl, refl, (refl, ltb-true 1 4294967295 refl))), record { there = refl; fits = ltb-true 12884901888 18446744073709551616 refl; becomes = refl })

s35 : WordStep t35 (births 1) t36
s35 = (master_at 1 (None) (None) (Some 1) (record { slot = 1; word = 4294967296 } ∷ []) (record { slot = 1; word = 0 } ∷ []) (None), (ltb-true 1 2 refl, refl), record { there = refl; fits = ltb-true 4294967296 18446744073709551616 refl; becomes = refl })

s36 : WordStep t36 (loads_hold 1) t37
s36 = (master_at 2 (Some (with_marks_of false false)) (None) (None) ([]) (record { slot = 1; word = 4294967296 } ∷ []) (None), ltb-true 1 2 refl, record { there = refl; fits = ltb-true 10737418240 18446744073709551616 refl; becomes = refl })

s37 : WordStep t37 (pins_hold 1) t38
s37 = (master_at 2 (Some (with_marks_of false false)) (None) (None) (record { slot = 1; word = 10737418240 } ∷ []) (record { slot = 1; word = 4294967296 } ∷ []) (None), (ltb-true 1 2 refl, refl, (0, record { slot = 1; word = 10737418240 }, refl, refl, ltb-true 0 3 refl)), record { there = refl; fits = ltb-true 10737418240 18446744073709551616 refl; becomes = refl })

s38 : WordStep t38 (unpins_hold 1) t39
s38 = (master_at 2 (Some (with_marks_of false false)) (Some 1) (None) ([]) (record { slot = 1; word = 4294967296 } ∷ []) (None), (ltb-true 1 2 refl, refl), record { there = refl; fits = ltb-true 10737418241 18446744073709551616 refl; becomes = refl })

-- the Master gives caller 3 a hold of the next node, and caller 3 makes one more by the node's key
abbrev past : List CallerView
past = (caller_at Spent 11 3 4294967297 false) ∷ (caller_at Spent 10 1 4294967298 false) ∷ (caller_at Spent 1 0 4294967298 false) ∷ []

abbrev next_master : Option ℕ → List Load → MasterView
next_master pinning loads = master_at 2 (Some (with_marks_of false false)) pinning (None) loads (record { slot = 1; word = 4294967296 } ∷ []) (None)

abbrev t40 : Table
t40 = table_at 4294967296 10737418240 (next_master (None) (record { slot = 1; word = 10737418240 } ∷ [])) past

abbrev t41 : Table
t41 = table_at 4294967296 10737418241 (next_master (Some 1) []) past

abbrev t42 : Table
t42 = table_at 4294967296 10737418241 (next_master (None) []) (past ++ next_caller Still 0 0 0 false ∷ [])

abbrev t43 : Table
t43 = table_at 4294967296 10737418241 (next_master (None) []) (past ++ next_caller Still 1 0 10737418241 false ∷ [])

abbrev t44 : Table
t44 = table_at 4294967296 10737418242 (next_master (None) []) (past ++ with_one_more (next_caller Still 2 0 10737418241 false) ∷ [])

abbrev t45 : Table
t45 = table_at 4294967296 10737418242 (next_master (None) []) (past ++ next_caller Still 2 0 10737418241 false ∷ next_caller Still 0 0 0 false ∷ [])

s39 : WordStep t39 (loads_hold 1) t40
s39 = (next_master (None) [], ltb-true 1 2 refl, record { there = refl; fits = ltb-true 10737418240 18446744073709551616 refl; becomes = refl })

s40 : WordStep t40 (pins_hold 1) t41
s40 = (next_master (None) (record { slot = 1; word = 10737418240 } ∷ []), (ltb-true 1 2 refl, refl, (0, record { slot = 1; word = 10737418240 }, refl, refl, ltb-true 0 3 refl)), record { there = refl; fits = ltb-true 10737418240 18446744073709551616 refl; becomes = refl })

s41 : WordStep t41 (splits 1) t42
s41 = (next_master (Some 1) [], refl, ltb-true 1 2 refl, refl, refl)

s42 : WordStep t42 (sees_holds_at 1 3) t43
s42 = (next_caller Still 0 0 0 false, (refl, refl), record { there = refl; fits = ltb-true 10737418241 18446744073709551616 refl; becomes = refl })

s43 : WordStep t43 (counts_hold_at 1 3) t44
s43 = (next_caller Still 1 0 10737418241 false, ((refl, refl), refl, (refl, ltb-true 2 3 refl)), record { there = refl; fits = ltb-true 10737418241 18446744073709551616 refl; becomes = refl })

s44 : WordStep t44 (hands_on 3) t45
s44 = (with_one_more (next_caller Still 2 0 10737418241 false), record { slot = 1; generation = 2 }, (refl, refl), refl, refl, refl)

abbrev t46 : Table
t46 = table_at 4294967296 10737418242 (next_master (None) []) (past ++ next_caller Still 3 0 0 false ∷ next_caller Still 0 0 0 false ∷ [])

s45 : WordStep t45 (reads_node 1 0 3) t46
s45 = (next_caller Still 2 0 10737418241 false, (refl, refl), record { there = refl; fits = ltb-true 0 18446744073709551616 refl; becomes = refl })

-- caller 3 meets the Master
abbrev met_by : List CallerView → List CallerView
met_by more = past ++ next_caller Still 3 0 0 false ∷ next_caller Still 0 0 0 false ∷ spent_hold (record { slot = 1; generation = 2 }) ∷ more

abbrev t47 : Table
t47 = table_at 4294967296 10737418242 (next_master (None) []) (met_by [])

abbrev t48 : Table
t48 = table_at 4294967296 10737418242 (next_master (None) []) (met_by (spent_hold (record { slot = 0; generation = 1 }) ∷ []))

s46 : WordStep t46 (reports 3) t47
s46 = (next_caller Still 3 0 0 false, still_holds, refl, refl)

s47 : WordStep t47 compares t47
s47 = ((next_master (None) [], refl), refl)

s48 : WordStep t47 answers t48
s48 = (next_master (None) [], refl, ltb-true 0 2 refl, refl)

-- the Master stores the first word of the next node, which is a directory
s_node : WordStep t35 (stores_node 1 0 0) t35
s_node = (master_at 1 (None) (None) (Some 1) (record { slot = 1; word = 4294967296 } ∷ []) (record { slot = 1; word = 0 } ∷ []) (None), ((ltb-true 1 2 refl, refl), ltb-true 0 5 refl), record { there = refl; fits = ltb-true 0 18446744073709551616 refl; becomes = refl })

pub lives : WordLife
lives = (t1, tt, s0, (t2, tt, s1, (t3, tt, s2, (t4, tt, s3, (t5, tt, s4, (t6, tt, s5, (t7, inl refl, s6, (t8, tt, s7, (t9, tt, s8, (t10, inr (0, (caller_at Still 0 0 0 false, refl, refl, still_holds)), s9, (t11, tt, s10, (t12, tt, s11, (t13, tt, s12, (t14, tt, s13, (t15, tt, s14, (t16, tt, s15, (t17, tt, s16, (t18, tt, s17, (t19, tt, s18, (t19, tt, n19, (t20, tt, s19, (t21, tt, s20, (t22, tt, s21, (a22, tt, s22, (a23, tt, a_breaks, (a23, tt, loads_count, (t23, tt, awake, (t24, tt, s23, (t25, tt, s24, (t26, tt, s25, (t27, tt, s26, (t28, tt, s27, (t29, tt, s28, (t30, (1, (caller_at Drained 8 1 6442450946 false, refl, refl, refl, refl)), s29, (t31, tt, s30, (b31, tt, s31, (t32, tt, b_releases, (c32, tt, c_counts, (d32, tt, d_shares, (e32, tt, e_releases, (t33, tt, s32, (t34, tt, s33, (t35, tt, s34, (t35, tt, s_node, (t36, tt, s35, (t37, tt, s36, (t38, tt, s37, (t39, tt, s38, (t40, tt, s39, (t41, tt, s40, (t42, inl refl, s41, (t43, tt, s42, (t44, tt, s43, (t45, tt, s44, (t46, tt, s45, (t47, tt, s46, (t47, tt, s47, (t48, inl refl, s48, refl))))))))))))))))))))))))))))))))))))))))))))))))))))))))))
