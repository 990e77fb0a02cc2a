-- `record` lends one record, and the list follows it. The check makes no proof for an array's element that is lent, so this is a walk of the MIR by hand.
-- The list in memory is taken apart into its array and its count, the array into its records, and record i is lent. When it comes back, with whatever
-- was written there, they make a list again: it has no invariant, so that nothing has to be shown of what was written.
use Rattle.std.proofs.Common.{◌≡◌, ℕ, ◌+◌, ◌*◌, ◌<◌, ◌^◌, List, [], ◌∷◌, false, length, get_or, set, sym, refl, ◌∙◌, length-set, w64, arith}
use Rattle.std.proofs.lemmas.Option.{slice_get-get_or}
use Rattle.std.proofs.raw_atomic.Walks.{proved}
use seplogic.Ra.Ura.{Ura}
use base.Fraction.{full_share}
use base.Logic.{SProp, ent, sep}
use base.Fml.{GName, ftrue, feq, fsep, flft}
use mir.Syntax.{named, ty_array, ty_int}
use mir.Val.{Val, vptr}
use types.Logic.{Logic, sem}
use types.Share.{parts}
use types.Kit.{‵, raw, ◌⊛◌, some, later, ◌$◌, ◌∵◌, !, qed, move, keep, use1, use2, split, split3, join, group, pick, rewrite, fsplit, fsplit3, fjoin, fpack, feq_i, feq_l, suffices, frame, await, done}
use types.Run.{enter, lit, bin, addr, stop, fld, returns}
use types.ByLocal.{alloc_all, pass_all, free_all, look_at, get, through, sets}
use contract.Monad.{fact}
use denote.ArrayMemory.{Array-apart, Array-whole}
use denote.Array.{Array}
use denote.Builtin.{usize}
use denote.Exit.{yes, no}
use denote.Follow.{follows, lends_Part}
use denote.Index.{place, place_is, others, takes, puts}
use denote.Memory.{cell_at, lone, mem, part_at, part_of, shares}
use denote.Plain.{uint_vals, uint_Tells}
use denote.RattleType.{owns}
use denote.Ref.{MutRef, mut_vals, mut_Tells}
use denote.Signature.{plain, mut_ref_to, types_at}
use denote.Steps.{heard, nothing, opens}
use denote.Struct.Laws.{lawfuls}
use denote.Struct.Members.{Member}
use denote.Struct.Parts.{PartsBack}
use denote.Struct.Pick.{rest_at, record_field_out, record_field_back}
use denote.Triple.Walked.{says, Stays, stay_dropped, walk_of, Goes-dropped, Goes-spent_ref, ends_at}
use Rattle.calendar.specs.Lending.{with_record}
use Rattle.calendar.specs.contracts.exceptions.Exception.{the_row as E}
use Rattle.calendar.specs.contracts.exceptions.Listed as listed
use Rattle.calendar.specs.contracts.exceptions.Listed.{the_row as R}
use Rattle.calendar.specs.contracts.exceptions.Listed.record as f
use Rattle.calendar.specs.declared.exceptions.Exception.{Exception}
use Rattle.calendar.specs.declared.exceptions.Listed.{Listed}
use Rattle.calendar.proofs.exceptions.Listed.TheLaws.{the_laws}
use Rattle.calendar.proofs.exceptions.Listed.record.Statement.{statement}
use Rattle.calendar.proofs.exceptions.Listed.record.Code as code

abbrev members : List Member
members = record { row = Array E 64; ty = ty_array (lone E.mir) 64 } ∷ record { row = usize; ty = ty_int w64 } ∷ []

blank : Exception
blank = record { code = 0; day = 0; runs = false }

module _ {M : Type 1} {𝓤 : Ura M} (𝓛 : Logic 𝓤) (l : Listed) (i b o : ℕ) where
  -- where record i lies
  abbrev at : ℕ
  at = i * 6 + (o + 0)

  -- the count, and the way back to a list
  abbrev Besides : SProp 𝓤
  Besides = sep 𝓤 (sem 𝓛 (rest_at full_share members 0 ((listed.the_type).to l) b o 0)) (PartsBack 𝓛 full_share (listed.struct).name members b o)

  -- all of the list but record i
  abbrev Rest : SProp 𝓤
  Rest = sep 𝓤 (sem 𝓛 (others (shares E) full_share l.records i b (o + 0))) Besides

  back : length l.records ≡ 64 → i < length l.records → (e : Exception) → ent 𝓤 (sep 𝓤 (sem 𝓛 ((mem E).own_at e b at)) Rest) (sem 𝓛 ((mem R).own_at (with_record l i e) b o))
  back whole inside e =
      qed 𝓛 (‵ (part_at E full_share e b at) ∷ ‵ (others (shares E) full_share l.records i b (o + 0)) ∷ raw Besides ∷ []) ∵
      rewrite ! 0 (λ (p : ℕ). ‵ (part_at E full_share e b p)) (sym (place_is 6 (o + 0) i)) refl $
      use2 𝓛 (‵ (parts (mem E) (shares E) full_share (set l.records i e) b (o + 0))) (puts (shares E) full_share 𝓛 l.records i e b (o + 0) inside) $
      feq_i ! ℕ (length (set l.records i e)) 64 (length-set l.records i e ∙ whole) $ fjoin ! $
      use1 𝓛 (‵ (part_at (Array E 64) full_share (set l.records i e) b (o + 0))) (Array-whole 𝓛 E full_share 64 (set l.records i e) b (o + 0)) $
      use2 𝓛 (‵ (part_at R full_share (with_record l i e) b o))
      (record_field_back 𝓛 full_share (listed.struct).name members Listed (listed.the_type).to (listed.the_type).to_one (with_record l i e) b o 0) $ done !

abbrev stayed : Stays f.ended.signature.params f.ended.kept
stayed = (stay_dropped (mut_ref_to (0 ∷ []) tt (plain (λ _. R))) no, (stay_dropped (plain (λ _. usize)) yes, tt))

pub record_spec : {M : Type 1} → statement M
unfolding part_of
record_spec 𝓤 𝓛 𝓜 𝓡 wired =
    let c = f.clauses 𝓛 𝓜.mem 𝓡.returns in
    proved 𝓛 f.ended stayed c 𝓜 𝓡 (Goes-spent_ref 𝓛 1 (0 ∷ []) tt (plain (λ _. R)), (Goes-dropped 𝓛 1 (plain (λ _. usize)) yes (λ κs x g. refl), tt))
    f.Key.name code.function (code.unfolded 𝓤 𝓛.H 𝓜 𝓡 wired)
    (λ κs. (mut_vals, (uint_vals w64, tt))) (λ κs. (mut_Tells (named 0) κs.0 R, (uint_Tells w64, tt))) (λ κs qs bounds a _ are.
    let κ = κs.0 in let q = qs.0 in let r = a.0 in let b = r.ref_ptr.0 in let o = r.ref_ptr.1 in let γ = r.ghost_name in let l = r.now in let i = a.1.0 in
    let x = get_or l.records i blank in let at = i * 6 + (o + 0) in
    let y : (walk_of 𝓛 f.ended stayed c).Ghost = ((κs, qs, bounds, a, (mut_vals r, (uint_vals w64 i, tt))), tt) in
    qed 𝓛 (((‵ (flft κ q) ⊛ ‵ ftrue) ⊛ ‵ (owns (types_at f.signature.params κs) a y.0.4)) ∷ raw (fact 𝓤 (i < 64)) ∷ []) ∵
    move ! (1 ∷ []) $ heard ! _ (λ few. split ! $ split ! $ move ! (2 ∷ []) $ fsplit ! $ fsplit3 ! $ keep ! (1 ∷ 2 ∷ 4 ∷ []) $
    enter ! _ _ _ _ _ $ alloc_all ! (λ _. pass_all ! refl ((tt, tt), ((tt, record { fits = are.1.0.1 }), tt)) $
    let small : i * 6 < 2 ^ 64 = omega arith in
    sets ! (bin ! (get ! refl) (lit ! tt) (record { fits = small })) refl (tt, record { fits = small }) $
    sets ! (addr ! (through ! refl (fld ! refl (stop !)))) refl (tt, tt) $ sets ! (bin ! (get ! refl) (get ! refl) tt) refl (tt, tt) $
    sets ! (addr ! (through ! refl (stop !))) refl (tt, tt) $
    opens ! tt R b o (λ us. fjoin ! $ fpack ! (List Val) (λ vs'. fsep (cell_at full_share R.mir vs' b o) (R.own_val l vs')) us $
    use1 𝓛 (‵ (part_at (Array E 64) full_share l.records b (o + 0)) ⊛ raw (Besides 𝓛 l i b o))
    (record_field_out 𝓛 full_share (listed.struct).name members Listed (listed.the_type).to (listed.the_type).to_one (lawfuls 𝓛 (listed.struct).parts the_laws) l b o 0) $ split ! $
    use1 𝓛 (‵ (feq ℕ (length l.records) 64) ⊛ ‵ (parts (mem E) (shares E) full_share l.records b (o + 0))) (Array-apart 𝓛 E full_share tt 64 l.records b (o + 0)) $ split ! $ feq_l ! (λ whole.
    let inside : i < length l.records = omega arith in
    use1 𝓛 (‵ (part_at E full_share x b (place 6 (o + 0) i)) ⊛ ‵ (others (shares E) full_share l.records i b (o + 0))) (takes (shares E) full_share 𝓛 l.records i blank b (o + 0) inside) $ split ! $
    rewrite ! 0 (λ (p : ℕ). ‵ (part_at E full_share x b p)) (place_is 6 (o + 0) i) refl $
    -- [the record; the others; the count; the open borrow, in three entries]
    move ! (1 ∷ 2 ∷ []) $ join ! $ move ! (2 ∷ 3 ∷ 4 ∷ 1 ∷ 0 ∷ []) $ group ! 5 $
    use1 𝓛 (later (some (λ (δ : GName). ‵ ((MutRef (named 0) κ E).own_val (record { ref_ptr = (b, at); ghost_name = δ; now = x }) (vptr b at ∷ [])) ⊛ ‵ (flft κ q) ⊛ ‵ (follows R E γ δ (with_record l i)))))
    (lends_Part 𝓛 R E (with_record l i) (named 0) κ q b o b at γ (Rest 𝓛 l i b o) (back 𝓛 l i b o whole inside) (R.coded.code l) (R.coded.code l) x) $ await ! tt $ pick ! (λ δ. split3 ! $
    returns ! (look_at ! 0 refl) $ free_all ! refl $
    suffices ! _ (ends_at 𝓛 f.ended stayed c y (vptr b at) (record { ref_ptr = (b, at); ghost_name = δ; now = x }) (tt, (tt, tt)) (tt, (tt, tt))) $
    nothing ! $ nothing ! $ fjoin ! $ nothing ! $ fjoin ! $ join ! $ nothing ! $ move ! (2 ∷ 0 ∷ []) $ join ! $ join ! $ frame ! $ says ! (slice_get-get_or l.records i blank inside) $ done !))))))
