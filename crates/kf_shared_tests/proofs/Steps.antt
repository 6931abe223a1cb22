-- The run on the words in a node's life: each step may be made from the table that it finds.
use Rattle.std.proofs.Common.{true, false, [], ◌∷◌, refl, ltb-true}
use Rattle.std.specs.Prelude.{Some, None}
use Rattle.kf_core.specs.declared.command.Command.TheVariants.{Doom, Unlink}
use Rattle.kf_core.specs.declared.caller.Phase.TheVariants.{Still, Running, Broken, Restored, Drained, Parted, Spent}
use Rattle.kf_words.specs.declared.note.Note.TheVariants.{Did, Claimed, Began, LockTaken, LockReleased}
use Rattle.kf_words.specs.Life.{with_marks_of, caller_at, master_at, table_at}
use Rattle.kf_words.specs.declared.sight.StepKind.TheVariants.{LoadsHold as loads_hold, StoresFresh as stores_fresh, StoresNode as stores_node, Births as births, TakesBias as takes_bias, PinsHold as pins_hold, Splits as splits, Tries as tries, MarksNode as marks_node, Looks as looks, Breaks as breaks, LooksOver as looks_over, Unlinks as unlinks, Parts as parts, Restores as restores, Leaves as leaves, Releases as releases, Notes as notes}
use Rattle.kf_words.specs.TableSteps.{Table, WordStep, WordRun}
use Rattle.kf_shared_tests.specs.Life.{create, root_key, first_key, next_key, call_steps, mark_steps, drain_steps, part_steps, next_steps}

abbrev pub opened : Table
opened = table_at 4294967296 0 (master_at 0 (None) (None) (None) ([]) ([]) (None)) ([])

abbrev t1 : Table
t1 = table_at 4294967296 0 (master_at 0 (None) (None) (None) (record { slot = 1; word = 0 } ∷ []) ([]) (None)) ([])

abbrev t2 : Table
t2 = table_at 4294967296 0 (master_at 0 (None) (None) (Some 1) (record { slot = 1; word = 0 } ∷ []) ([]) (None)) ([])

abbrev t3 : Table
t3 = table_at 4294967296 6442450944 (master_at 1 (Some (with_marks_of false false)) (None) (None) ([]) (record { slot = 1; word = 0 } ∷ []) (None)) ([])

abbrev t4 : Table
t4 = table_at 0 6442450944 (master_at 1 (Some (with_marks_of true false)) (None) (None) ([]) (record { slot = 1; word = 0 } ∷ []) (None)) ([])

abbrev t5 : Table
t5 = table_at 0 6442450944 (master_at 1 (Some (with_marks_of true false)) (None) (None) (record { slot = 1; word = 6442450944 } ∷ []) (record { slot = 1; word = 0 } ∷ []) (None)) ([])

abbrev t6 : Table
t6 = table_at 0 6442450945 (master_at 1 (Some (with_marks_of true false)) (Some 1) (None) ([]) (record { slot = 1; word = 0 } ∷ []) (None)) ([])

abbrev t7 : Table
t7 = table_at 0 6442450945 (master_at 1 (Some (with_marks_of true false)) (None) (None) ([]) (record { slot = 1; word = 0 } ∷ []) (None)) ((caller_at Still 0 0 0 false) ∷ [])

abbrev t8 : Table
t8 = table_at 0 6442450945 (master_at 1 (Some (with_marks_of true false)) (None) (None) (record { slot = 1; word = 6442450945 } ∷ []) (record { slot = 1; word = 0 } ∷ []) (None)) ((caller_at Still 0 0 0 false) ∷ [])

abbrev t9 : Table
t9 = table_at 0 6442450946 (master_at 1 (Some (with_marks_of true false)) (Some 1) (None) ([]) (record { slot = 1; word = 0 } ∷ []) (None)) ((caller_at Still 0 0 0 false) ∷ [])

abbrev t10 : Table
t10 = table_at 0 6442450946 (master_at 1 (Some (with_marks_of true false)) (None) (None) ([]) (record { slot = 1; word = 0 } ∷ []) (None)) ((caller_at Still 0 0 0 false) ∷ (caller_at Still 0 0 0 false) ∷ [])

abbrev pub called : Table
called = table_at 1 6442450946 (master_at 1 (Some (with_marks_of true false)) (None) (None) ([]) (record { slot = 1; word = 0 } ∷ []) (None)) ((caller_at Running 1 1 0 false) ∷ (caller_at Still 0 0 0 false) ∷ [])

abbrev pub marked : Table
marked = table_at 12884901889 6442450946 (master_at 1 (Some (with_marks_of true true)) (None) (None) ([]) (record { slot = 1; word = 0 } ∷ []) (None)) ((caller_at Running 1 1 0 false) ∷ (caller_at Still 0 0 0 false) ∷ [])

abbrev t13 : Table
t13 = table_at 12884901889 6442450946 (master_at 1 (Some (with_marks_of true true)) (None) (None) ([]) (record { slot = 1; word = 0 } ∷ []) (None)) ((caller_at Running 1 1 0 false) ∷ (caller_at Still 1 0 12884901889 false) ∷ [])

abbrev t14 : Table
t14 = table_at 12884901888 6442450946 (master_at 1 (Some (with_marks_of true true)) (None) (None) ([]) (record { slot = 1; word = 0 } ∷ []) (None)) ((caller_at Broken 2 1 12884901889 false) ∷ (caller_at Still 1 0 12884901889 false) ∷ [])

abbrev pub drained : Table
drained = table_at 12884901888 6442450946 (master_at 1 (Some (with_marks_of true true)) (None) (None) ([]) (record { slot = 1; word = 0 } ∷ []) (None)) ((caller_at Broken 2 1 12884901889 false) ∷ (caller_at Drained 2 0 12884901888 false) ∷ [])

abbrev t16 : Table
t16 = table_at 12884901888 6442450946 (master_at 1 (Some (with_marks_of true true)) (None) (None) ([]) (record { slot = 1; word = 0 } ∷ []) (Some (record { slot = 1; word = 12884901888 }))) ((caller_at Broken 2 1 12884901889 false) ∷ (caller_at Drained 2 0 12884901888 false) ∷ [])

abbrev t17 : Table
t17 = table_at 12884901888 4294967298 (master_at 1 (None) (None) (None) ([]) (record { slot = 1; word = 0 } ∷ []) (None)) ((caller_at Broken 2 1 12884901889 false) ∷ (caller_at Drained 2 0 12884901888 false) ∷ [])

abbrev t18 : Table
t18 = table_at 12884901888 4294967298 (master_at 1 (None) (None) (None) ([]) (record { slot = 1; word = 0 } ∷ []) (None)) ((caller_at Broken 2 1 12884901889 false) ∷ (caller_at Parted 3 0 4294967298 false) ∷ [])

abbrev t19 : Table
t19 = table_at 12884901889 4294967298 (master_at 1 (None) (None) (None) ([]) (record { slot = 1; word = 0 } ∷ []) (None)) ((caller_at Restored 3 1 12884901888 false) ∷ (caller_at Parted 3 0 4294967298 false) ∷ [])

abbrev pub parted : Table
parted = table_at 12884901888 4294967298 (master_at 1 (None) (None) (None) ([]) (record { slot = 1; word = 0 } ∷ []) (None)) ((caller_at Still 4 1 12884901889 false) ∷ (caller_at Parted 3 0 4294967298 false) ∷ [])

abbrev t21 : Table
t21 = table_at 12884901888 4294967297 (master_at 1 (None) (None) (None) ([]) (record { slot = 1; word = 0 } ∷ []) (None)) ((caller_at Still 4 1 12884901889 false) ∷ (caller_at Spent 4 0 4294967298 false) ∷ [])

abbrev t22 : Table
t22 = table_at 12884901888 4294967296 (master_at 1 (None) (None) (None) ([]) (record { slot = 1; word = 0 } ∷ []) (None)) ((caller_at Spent 5 1 4294967297 false) ∷ (caller_at Spent 4 0 4294967298 false) ∷ [])

abbrev t23 : Table
t23 = table_at 12884901888 4294967296 (master_at 1 (None) (None) (None) (record { slot = 1; word = 4294967296 } ∷ []) (record { slot = 1; word = 0 } ∷ []) (None)) ((caller_at Spent 5 1 4294967297 false) ∷ (caller_at Spent 4 0 4294967298 false) ∷ [])

abbrev t24 : Table
t24 = table_at 4294967296 4294967296 (master_at 1 (None) (None) (Some 1) (record { slot = 1; word = 4294967296 } ∷ []) (record { slot = 1; word = 0 } ∷ []) (None)) ((caller_at Spent 5 1 4294967297 false) ∷ (caller_at Spent 4 0 4294967298 false) ∷ [])

abbrev t25 : Table
t25 = table_at 4294967296 10737418240 (master_at 2 (Some (with_marks_of false false)) (None) (None) ([]) (record { slot = 1; word = 4294967296 } ∷ []) (None)) ((caller_at Spent 5 1 4294967297 false) ∷ (caller_at Spent 4 0 4294967298 false) ∷ [])

abbrev pub again : Table
again = table_at 0 10737418240 (master_at 2 (Some (with_marks_of true false)) (None) (None) ([]) (record { slot = 1; word = 4294967296 } ∷ []) (None)) ((caller_at Spent 5 1 4294967297 false) ∷ (caller_at Spent 4 0 4294967298 false) ∷ [])

s0 : WordStep opened (notes (Began 2 root_key)) opened
s0 = (((master_at 0 (None) (None) (None) ([]) ([]) (None)), refl), refl)

s1 : WordStep opened (notes LockTaken) opened
s1 = (((master_at 0 (None) (None) (None) ([]) ([]) (None)), refl), refl)

s2 : WordStep opened (loads_hold 1) t1
s2 = ((master_at 0 (None) (None) (None) ([]) ([]) (None)), ltb-true 1 2 refl, record { there = refl; fits = ltb-true 0 18446744073709551616 refl; becomes = refl })

s3 : WordStep t1 (stores_fresh 1) t2
s3 = ((master_at 0 (None) (None) (None) (record { slot = 1; word = 0 } ∷ []) ([]) (None)), (ltb-true 1 2 refl, (0, record { slot = 1; word = 0 }, refl, refl, (refl, ltb-true 0 4294967295 refl))), record { there = refl; fits = ltb-true 4294967296 18446744073709551616 refl; becomes = refl })

s4 : WordStep t2 (stores_node 1 0 0) t2
s4 = ((master_at 0 (None) (None) (Some 1) (record { slot = 1; word = 0 } ∷ []) ([]) (None)), ((ltb-true 1 2 refl, refl), ltb-true 0 5 refl), record { there = refl; fits = ltb-true 0 18446744073709551616 refl; becomes = refl })

s5 : WordStep t2 (stores_node 1 1 0) t2
s5 = ((master_at 0 (None) (None) (Some 1) (record { slot = 1; word = 0 } ∷ []) ([]) (None)), ((ltb-true 1 2 refl, refl), ltb-true 1 5 refl), record { there = refl; fits = ltb-true 0 18446744073709551616 refl; becomes = refl })

s6 : WordStep t2 (stores_node 1 2 0) t2
s6 = ((master_at 0 (None) (None) (Some 1) (record { slot = 1; word = 0 } ∷ []) ([]) (None)), ((ltb-true 1 2 refl, refl), ltb-true 2 5 refl), record { there = refl; fits = ltb-true 0 18446744073709551616 refl; becomes = refl })

s7 : WordStep t2 (births 1) t3
s7 = ((master_at 0 (None) (None) (Some 1) (record { slot = 1; word = 0 } ∷ []) ([]) (None)), (ltb-true 1 2 refl, refl), record { there = refl; fits = ltb-true 0 18446744073709551616 refl; becomes = refl })

s8 : WordStep t3 (takes_bias 1) t4
s8 = ((master_at 1 (Some (with_marks_of false false)) (None) (None) ([]) (record { slot = 1; word = 0 } ∷ []) (None)), (record { generation = 1; marks = Some (with_marks_of false false) }, refl, refl), record { there = refl; fits = ltb-true 4294967296 18446744073709551616 refl; becomes = refl })

s9 : WordStep t4 (notes (Did (create first_key))) t4
s9 = (((master_at 1 (Some (with_marks_of true false)) (None) (None) ([]) (record { slot = 1; word = 0 } ∷ []) (None)), refl), refl)

s10 : WordStep t4 (loads_hold 1) t5
s10 = ((master_at 1 (Some (with_marks_of true false)) (None) (None) ([]) (record { slot = 1; word = 0 } ∷ []) (None)), ltb-true 1 2 refl, record { there = refl; fits = ltb-true 6442450944 18446744073709551616 refl; becomes = refl })

s11 : WordStep t5 (pins_hold 1) t6
s11 = ((master_at 1 (Some (with_marks_of true false)) (None) (None) (record { slot = 1; word = 6442450944 } ∷ []) (record { slot = 1; word = 0 } ∷ []) (None)), (ltb-true 1 2 refl, refl, (0, record { slot = 1; word = 6442450944 }, refl, refl, ltb-true 0 3 refl)), record { there = refl; fits = ltb-true 6442450944 18446744073709551616 refl; becomes = refl })

s12 : WordStep t6 (splits 1) t7
s12 = ((master_at 1 (Some (with_marks_of true false)) (Some 1) (None) ([]) (record { slot = 1; word = 0 } ∷ []) (None)), refl, ltb-true 1 2 refl, refl, refl)

s13 : WordStep t7 (loads_hold 1) t8
s13 = ((master_at 1 (Some (with_marks_of true false)) (None) (None) ([]) (record { slot = 1; word = 0 } ∷ []) (None)), ltb-true 1 2 refl, record { there = refl; fits = ltb-true 6442450945 18446744073709551616 refl; becomes = refl })

s14 : WordStep t8 (pins_hold 1) t9
s14 = ((master_at 1 (Some (with_marks_of true false)) (None) (None) (record { slot = 1; word = 6442450945 } ∷ []) (record { slot = 1; word = 0 } ∷ []) (None)), (ltb-true 1 2 refl, refl, (0, record { slot = 1; word = 6442450945 }, refl, refl, ltb-true 1 3 refl)), record { there = refl; fits = ltb-true 6442450945 18446744073709551616 refl; becomes = refl })

s15 : WordStep t9 (splits 1) t10
s15 = ((master_at 1 (Some (with_marks_of true false)) (Some 1) (None) ([]) (record { slot = 1; word = 0 } ∷ []) (None)), refl, ltb-true 1 2 refl, refl, refl)

s16 : WordStep t10 (tries 0) called
s16 = ((caller_at Still 0 0 0 false), (refl, refl), record { there = refl; fits = ltb-true 0 18446744073709551616 refl; becomes = refl })

s17 : WordStep called (notes LockTaken) called
s17 = (((master_at 1 (Some (with_marks_of true false)) (None) (None) ([]) (record { slot = 1; word = 0 } ∷ []) (None)), refl), refl)

s18 : WordStep called (notes (Did (Doom first_key))) called
s18 = (((master_at 1 (Some (with_marks_of true false)) (None) (None) ([]) (record { slot = 1; word = 0 } ∷ []) (None)), refl), refl)

s19 : WordStep called (marks_node 1) marked
s19 = (with_marks_of true false, ((master_at 1 (Some (with_marks_of true false)) (None) (None) ([]) (record { slot = 1; word = 0 } ∷ []) (None)), ((record { generation = 1; marks = Some (with_marks_of true false) }, refl, refl), refl), record { there = refl; fits = ltb-true 1 18446744073709551616 refl; becomes = refl }))

s20 : WordStep marked (notes (Claimed first_key)) marked
s20 = (((master_at 1 (Some (with_marks_of true true)) (None) (None) ([]) (record { slot = 1; word = 0 } ∷ []) (None)), refl), refl)

s21 : WordStep marked (notes LockReleased) marked
s21 = (((master_at 1 (Some (with_marks_of true true)) (None) (None) ([]) (record { slot = 1; word = 0 } ∷ []) (None)), refl), refl)

s22 : WordStep marked (looks 1) t13
s22 = ((caller_at Still 0 0 0 false), (refl, refl), record { there = refl; fits = ltb-true 12884901889 18446744073709551616 refl; becomes = refl })

s23 : WordStep t13 (breaks 0) t14
s23 = ((caller_at Running 1 1 0 false), (refl, refl), record { there = refl; fits = ltb-true 12884901889 18446744073709551616 refl; becomes = refl })

s24 : WordStep t14 (looks 1) drained
s24 = ((caller_at Still 1 0 12884901889 false), (refl, refl), record { there = refl; fits = ltb-true 12884901888 18446744073709551616 refl; becomes = refl })

s25 : WordStep drained (notes LockTaken) drained
s25 = (((master_at 1 (Some (with_marks_of true true)) (None) (None) ([]) (record { slot = 1; word = 0 } ∷ []) (None)), refl), refl)

s26 : WordStep drained (looks_over 1) t16
s26 = ((master_at 1 (Some (with_marks_of true true)) (None) (None) ([]) (record { slot = 1; word = 0 } ∷ []) (None)), ltb-true 1 2 refl, record { there = refl; fits = ltb-true 12884901888 18446744073709551616 refl; becomes = refl })

s27 : WordStep t16 (unlinks 1) t17
s27 = ((master_at 1 (Some (with_marks_of true true)) (None) (None) ([]) (record { slot = 1; word = 0 } ∷ []) (Some (record { slot = 1; word = 12884901888 }))), ((with_marks_of true true, (record { generation = 1; marks = Some (with_marks_of true true) }, refl, refl)), (12884901888, refl, refl)), record { there = refl; fits = ltb-true 6442450946 18446744073709551616 refl; becomes = refl })

s28 : WordStep t17 (notes (Did (Unlink first_key))) t17
s28 = (((master_at 1 (None) (None) (None) ([]) (record { slot = 1; word = 0 } ∷ []) (None)), refl), refl)

s29 : WordStep t17 (notes LockReleased) t17
s29 = (((master_at 1 (None) (None) (None) ([]) (record { slot = 1; word = 0 } ∷ []) (None)), refl), refl)

s30 : WordStep t17 (parts 1) t18
s30 = ((caller_at Drained 2 0 12884901888 false), (refl, refl), record { there = refl; fits = ltb-true 4294967298 18446744073709551616 refl; becomes = refl })

s31 : WordStep t18 (notes LockTaken) t18
s31 = (((master_at 1 (None) (None) (None) ([]) (record { slot = 1; word = 0 } ∷ []) (None)), refl), refl)

s32 : WordStep t18 (restores 0) t19
s32 = ((caller_at Broken 2 1 12884901889 false), (refl, refl), record { there = refl; fits = ltb-true 12884901888 18446744073709551616 refl; becomes = refl })

s33 : WordStep t19 (leaves 0) parted
s33 = ((caller_at Restored 3 1 12884901888 false), (refl, refl), record { there = refl; fits = ltb-true 12884901889 18446744073709551616 refl; becomes = refl })

s34 : WordStep parted (releases 1) t21
s34 = ((caller_at Parted 3 0 4294967298 false), (refl, refl), record { there = refl; fits = ltb-true 4294967298 18446744073709551616 refl; becomes = refl })

s35 : WordStep t21 (releases 0) t22
s35 = ((caller_at Still 4 1 12884901889 false), (refl, refl), record { there = refl; fits = ltb-true 4294967297 18446744073709551616 refl; becomes = refl })

s36 : WordStep t22 (notes LockTaken) t22
s36 = (((master_at 1 (None) (None) (None) ([]) (record { slot = 1; word = 0 } ∷ []) (None)), refl), refl)

s37 : WordStep t22 (loads_hold 1) t23
s37 = ((master_at 1 (None) (None) (None) ([]) (record { slot = 1; word = 0 } ∷ []) (None)), ltb-true 1 2 refl, record { there = refl; fits = ltb-true 4294967296 18446744073709551616 refl; becomes = refl })

s38 : WordStep t23 (stores_fresh 1) t24
s38 = ((master_at 1 (None) (None) (None) (record { slot = 1; word = 4294967296 } ∷ []) (record { slot = 1; word = 0 } ∷ []) (None)), (ltb-true 1 2 refl, (0, record { slot = 1; word = 4294967296 }, refl, refl, (refl, ltb-true 1 4294967295 refl))), record { there = refl; fits = ltb-true 12884901888 18446744073709551616 refl; becomes = refl })

s39 : WordStep t24 (stores_node 1 0 0) t24
s39 = ((master_at 1 (None) (None) (Some 1) (record { slot = 1; word = 4294967296 } ∷ []) (record { slot = 1; word = 0 } ∷ []) (None)), ((ltb-true 1 2 refl, refl), ltb-true 0 5 refl), record { there = refl; fits = ltb-true 0 18446744073709551616 refl; becomes = refl })

s40 : WordStep t24 (stores_node 1 1 0) t24
s40 = ((master_at 1 (None) (None) (Some 1) (record { slot = 1; word = 4294967296 } ∷ []) (record { slot = 1; word = 0 } ∷ []) (None)), ((ltb-true 1 2 refl, refl), ltb-true 1 5 refl), record { there = refl; fits = ltb-true 0 18446744073709551616 refl; becomes = refl })

s41 : WordStep t24 (stores_node 1 2 0) t24
s41 = ((master_at 1 (None) (None) (Some 1) (record { slot = 1; word = 4294967296 } ∷ []) (record { slot = 1; word = 0 } ∷ []) (None)), ((ltb-true 1 2 refl, refl), ltb-true 2 5 refl), record { there = refl; fits = ltb-true 0 18446744073709551616 refl; becomes = refl })

s42 : WordStep t24 (births 1) t25
s42 = ((master_at 1 (None) (None) (Some 1) (record { slot = 1; word = 4294967296 } ∷ []) (record { slot = 1; word = 0 } ∷ []) (None)), (ltb-true 1 2 refl, refl), record { there = refl; fits = ltb-true 4294967296 18446744073709551616 refl; becomes = refl })

s43 : WordStep t25 (takes_bias 1) again
s43 = ((master_at 2 (Some (with_marks_of false false)) (None) (None) ([]) (record { slot = 1; word = 4294967296 } ∷ []) (None)), (record { generation = 2; marks = Some (with_marks_of false false) }, refl, refl), record { there = refl; fits = ltb-true 4294967296 18446744073709551616 refl; becomes = refl })

s44 : WordStep again (notes (Did (create next_key))) again
s44 = (((master_at 2 (Some (with_marks_of true false)) (None) (None) ([]) (record { slot = 1; word = 4294967296 } ∷ []) (None)), refl), refl)

pub run_called : WordRun opened call_steps called
run_called = (opened, s0, (opened, s1, (t1, s2, (t2, s3, (t2, s4, (t2, s5, (t2, s6, (t3, s7, (t4, s8, (t4, s9, (t5, s10, (t6, s11, (t7, s12, (t8, s13, (t9, s14, (t10, s15, (called, s16, refl)))))))))))))))))

pub run_marked : WordRun called mark_steps marked
run_marked = (called, s17, (called, s18, (marked, s19, (marked, s20, (marked, s21, refl)))))

pub run_drained : WordRun marked drain_steps drained
run_drained = (t13, s22, (t14, s23, (drained, s24, refl)))

pub run_parted : WordRun drained part_steps parted
run_parted = (drained, s25, (t16, s26, (t17, s27, (t17, s28, (t17, s29, (t18, s30, (t18, s31, (t19, s32, (parted, s33, refl)))))))))

pub run_again : WordRun parted next_steps again
run_again = (t21, s34, (t22, s35, (t22, s36, (t23, s37, (t24, s38, (t24, s39, (t24, s40, (t24, s41, (t25, s42, (again, s43, (again, s44, refl)))))))))))
