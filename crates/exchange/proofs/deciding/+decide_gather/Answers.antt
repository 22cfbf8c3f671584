-- `exchange::deciding::decide` and `gather` meet their contracts: the entries as they are gathered, and the vote over them.
use Rattle.std.proofs.Common.{arith, ap, ◌∙◌}
use Rattle.exchange.specs.declared.deciding.Entries.TheInside.{Inside}
use Rattle.exchange.proofs.Gathering
use Rattle.exchange.proofs.Verdict
use Rattle.exchange.proofs.deciding.+decide_gather.Goals.{gather-then-not-contains, gather-then-left-eq1, gather-else-left-eq1, gather-else-not-contains}
use Rattle.exchange.proofs.deciding.+decide_gather.Goals as goal

pub decide-overflow_add-result : goal.decide-overflow_add-result
decide-overflow_add-result t c =
    Verdict.tie-fits _ _ c.args.told.now.given _ _ c.requires _ c.gather.ensures _ _ _ c.ties.ensures c.from-3.ensures

pub decide-returns : goal.decide-returns
decide-returns t c =
    Verdict.decided _ _ c.args.told.now.given _ _ _ _ c.requires _ _ _ c.gather.ensures c.words.ensures c.from.ensures c.from-2.ensures c.tally-vote.ensures _ _ c.ties.ensures c.from-3.ensures

pub gather-loop-j-init : goal.gather-loop-j-init
gather-loop-j-init t c = Gathering.held-own _ _ _ _ _ _ _ c.entries.told c.arrives-own.ensures c.put_word.ensures

pub gather-relayed-requires : goal.gather-relayed-requires
gather-relayed-requires t c = Gathering.extended-relay _ _ c.args.told.now.given _ _ _ c.requires (Gathering.receives _ _ _ _ _ _ c.args.path.marks c.with-taken.ensures c.loop-j-test.true c.if-not-contains.ensures)

pub gather-decide-d-requires : goal.gather-decide-d-requires
gather-decide-d-requires t c = (
  omega (arith, c.decreases, c.requires.more),
  Gathering.extended-ready _ _ c.args.told.now.given _ _ _ c.requires (Gathering.receives _ _ _ _ _ _ c.args.path.marks c.with-taken.ensures c.loop-j-test.true c.if-not-contains.ensures) _ c.extended.ensures.route c.if-left-eq1.false,
)

pub gather-put_word-requires-then-not-contains : goal.gather-put_word-requires-then-not-contains
gather-put_word-requires-then-not-contains t c = Gathering.turn-room _ _ c.args.told.now.given _ _ _ c.requires _ _ _ c.loop-j.invariant c.loop-j-test.true (Gathering.receives _ _ _ _ _ _ c.args.path.marks c.with-taken.ensures c.loop-j-test.true c.if-not-contains.ensures)

pub gather-overflow_add-count : goal.gather-overflow_add-count
gather-overflow_add-count t c = Gathering.turn-count _ _ c.args.told.now.given _ _ _ c.requires _ _ _ c.loop-j.invariant c.loop-j-test.true (Gathering.receives _ _ _ _ _ _ c.args.path.marks c.with-taken.ensures c.loop-j-test.true c.if-not-contains.ensures)

pub gather-overflow_add-ties : goal.gather-overflow_add-ties
gather-overflow_add-ties t c =
    Gathering.turn-ties _ _ c.args.told.now.given _ _ _ c.requires _ _ _ c.loop-j.invariant c.loop-j-test.true (Gathering.receives _ _ _ _ _ _ c.args.path.marks c.with-taken.ensures c.loop-j-test.true c.if-not-contains.ensures) _
    (elim c.if-left-eq1.branch [
      | gather-then-left-eq1 v ↦ Gathering.last _ _ _ _ _ _ _ v.if-left-eq1.true v.relayed.ensures v.d-is
      | gather-else-left-eq1 v ↦ Gathering.deeper _ _ _ _ _ _ _ _ v.extended.ensures.route v.decide-d.ensures v.d-is
    ])

pub gather-loop-j-preserved : goal.gather-loop-j-preserved
gather-loop-j-preserved t c =
    elim c.if-not-contains.branch [
      | gather-then-not-contains w ↦ Gathering.turn_more _ _ c.args.told.now.given _ _ _ c.requires _ _ _ c.loop-j.invariant c.loop-j-test.true (Gathering.receives _ _ _ _ _ _ c.args.path.marks c.with-taken.ensures c.loop-j-test.true w.if-not-contains.ensures) _
          (elim w.if-left-eq1.branch [
            | gather-then-left-eq1 v ↦ Gathering.last _ _ _ _ _ _ _ v.if-left-eq1.true v.relayed.ensures v.d-is
            | gather-else-left-eq1 v ↦ Gathering.deeper _ _ _ _ _ _ _ _ v.extended.ensures.route v.decide-d.ensures v.d-is
          ])
          _ _ _ (ap (λ (e : Inside). e.bytes) w.entries-inside-is ∙ w.put_word-then-not-contains.ensures) w.count-is w.ties-is
      | gather-else-not-contains w ↦ Gathering.turn-skip _ _ c.args.told.now.given _ _ _ c.requires _ _ _ c.loop-j.invariant c.loop-j-test.true _ _ _
          (Gathering.receives-not _ _ _ _ _ _ c.args.path.marks c.with-taken.ensures c.loop-j-test.true w.if-not-contains.ensures) (ap (λ (e : Inside). e.bytes) w.entries-inside-is) w.count-is w.ties-is
    ]

pub gather-invariant_of-entries : goal.gather-invariant_of-entries
gather-invariant_of-entries t c = Gathering.all-fit _ _ c.args.told.now.given _ _ _ c.requires _ _ _ c.loop-j.invariant (omega arith)

pub gather-returns : goal.gather-returns
gather-returns t c = Gathering.held_all _ _ c.args.told.now.given _ _ _ c.requires _ _ _ c.loop-j.invariant (omega arith)
