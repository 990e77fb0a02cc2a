use Rattle.std.proofs.Common.{◌≡◌, ℕ, ◌+◌, ◌-◌, ◌≤◌, ◌/◌, false, take, drop, length, get_or, replicate, sym, ap, ◌∙◌, subst, inl, inr, arith}
use Rattle.std.proofs.lemmas.Bool.{cases_lt}
use Rattle.std.proofs.lemmas.List.{get_or_past, length-take, length-take-le, length-drop}
use borrow.Rule.Slice.PartMut.{put_mid}
use Rattle.search.specs.Notes.{BlankElsewhere}
use Rattle.search.specs.Records.{blank}
use Rattle.search.specs.Limits.{block, blocks}
use Rattle.search.proofs.BlankRecords.{blanked, still_blank, part_blank}
use Rattle.search.proofs.TouchedBlocks.{untouched_ahead}
use Rattle.search.proofs.cheapest.blank_touched.Goals as goal
use Rattle.search.proofs.cheapest.blank_touched.Goals.{then-touched, else-touched}

pub loop-block-preserved : goal.loop-block-preserved
loop-block-preserved g c =
    let l = c.loop-block in
    elim c.if-touched.branch [
      | then-touched w ↦
          let a = w.min.result in
          let e = w.min-end.result in
          let k = e - a in
          let room : a + k ≤ length l.work = omega (arith, w.min.ensures, w.min-end.ensures, l.auto.work) in
          let long : length (take k (drop a l.work)) ≡ k = length-take-le k (drop a l.work) (omega (arith, length-drop a l.work)) in
          let now = w.work-is ∙ ap (put_mid a k l.work) (w.blank_block.ensures ∙ ap (λ n. replicate n blank) long) in
          let still = λ (z : ℕ) (was : get_or l.work z blank ≡ blank). ap (λ t. get_or t z blank) now ∙ still_blank a k l.work room z was in (
            λ z h. elim (cases_lt (z / block) l.block) [
              | inl b ↦ still z (l.invariant.0 z b)
              | inr b ↦
                  elim (cases_lt z e) [
                    | inl high ↦ ap (λ t. get_or t z blank) now ∙ part_blank a k l.work room z (omega (arith, w.min.ensures)) (omega arith)
                    | inr past ↦ still z (get_or_past l.work z blank (omega (arith, w.min-end.ensures, l.auto.work)))
                  ]
            ],
            record { long = l.invariant.1.long; blank = λ z clear. still z (l.invariant.1.blank z clear) },
          )
      | else-touched w ↦ (
        λ z h. subst (λ t. get_or t z blank ≡ blank) (sym w.work-is) (elim (cases_lt (z / block) l.block) [
          | inl b ↦ l.invariant.0 z b
          | inr b ↦ let e : l.block ≡ z / block = omega arith in l.invariant.1.blank z (ap (λ x. get_or c.args.notes.now.touched x false) (sym e) ∙ untouched_ahead _ c.args.notes.now.touched l.block (omega arith) w.if-touched.false)
        ]),
        subst (λ t. BlankElsewhere t c.args.notes.now) (sym w.work-is) l.invariant.1,
      )
    ]

pub returns : goal.returns
returns g c =
    let l = c.loop-block in
    blanked (length l.work) l.work (omega arith)
    (λ z h. elim (cases_lt (z / block) l.block) [
      | inl b ↦ l.invariant.0 z b
      | inr b ↦
          let noted = c.args.notes.now.touched in
          let all : c.min-blocks.result ≤ l.block = omega (arith, length-take c.min-blocks.result noted, l.invariant.1.long, c.min-blocks.ensures, c.loop-block-test.false) in
          let past : blocks ≤ z / block = omega (arith, c.min-blocks.ensures, l.auto.work) in
          l.invariant.1.blank z (get_or_past noted (z / block) false (omega (arith, l.invariant.1.long)))
    ])
    ∙ ap (λ n. replicate n blank) l.auto.work
