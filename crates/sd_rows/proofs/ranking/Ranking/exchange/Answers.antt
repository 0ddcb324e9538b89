use Rattle.std.proofs.Common.{◌≡◌, get_or, arith}
use Rattle.std.proofs.lemmas.List.{get_or_read}
use Rattle.sd_rows.proofs.RankingLemmas.{exchange_ranking, exchange_exchanged}
use Rattle.sd_rows.proofs.ranking.Ranking.exchange.Goals as goal

pub returns-clause-ranking : goal.returns-clause-ranking
returns-clause-ranking c =
    let s = c.args.self.now in
    let from : c.index-from.result.now ≡ get_or s.rank.items c.args.place 0 =
    get_or_read s.rank.items c.args.place c.index-from.result.now (omega (arith, c.requires.ranking.len, c.requires.within)) c.index-from.ensures 0 in
    let other : c.index-other.result.now ≡ get_or s.order.items c.args.to 0 =
    get_or_read s.order.items c.args.to c.index-other.result.now c.requires.to c.index-other.ensures 0 in
    exchange_ranking s.order.items s.rank.items c.args.place c.args.to c.index-from.result.now c.index-other.result.now c.requires.ranking c.requires.within c.requires.to from other

pub returns-clause-exchanged : goal.returns-clause-exchanged
returns-clause-exchanged c =
    let s = c.args.self.now in
    let from : c.index-from.result.now ≡ get_or s.rank.items c.args.place 0 =
    get_or_read s.rank.items c.args.place c.index-from.result.now (omega (arith, c.requires.ranking.len, c.requires.within)) c.index-from.ensures 0 in
    let other : c.index-other.result.now ≡ get_or s.order.items c.args.to 0 =
    get_or_read s.order.items c.args.to c.index-other.result.now c.requires.to c.index-other.ensures 0 in
    exchange_exchanged s.order.items s.rank.items c.args.place c.args.to c.index-from.result.now c.index-other.result.now c.requires.ranking c.requires.within c.requires.to from other
