-- `put_way` meets its contract: a count, the road, a count. Assumes nothing.
use native.Mathlib.Omega.{arith}
use Rattle.listing_write.specs.Text.{way_text}
use Rattle.listing_write.specs.Lengths.{count_length, road_length}
use Rattle.writing.specs.Written.{put_more, put_length}
use Rattle.listing_write.proofs.put_way.Goals as goal

pub put_road-end-requires : goal.put_road-end-requires
put_road-end-requires c =
    let p = c.put_count-word.ensures in
    omega (
      arith,
      p.place,
      put_length p,
      count_length
          c.args.found.way.rounds 32,
    )

pub put_count-requires : goal.put_count-requires
put_count-requires c =
    let q = c.put_road-end.ensures in
    let p = c.put_count-word.ensures in
    let f = c.args.found in
    omega (arith, q.place, put_length q, road_length f.road, p.place, put_length p, count_length f.way.rounds 32)

pub returns : goal.returns
unfolding way_text
returns c =
    put_more c.put_count-word.ensures (put_more c.put_road-end.ensures c.put_count.ensures)
