-- A table by value whose slots are lent as a run: the head that goes with them, and the table of the reply.
use Rattle.std.specs.Prelude.{min}
use Rattle.links.specs.declared.Head.{Head}
use Rattle.links.specs.declared.HeadReply.{HeadReply}
use Rattle.links.specs.declared.Table.{Table}
use Rattle.links.specs.declared.TableReply.{TableReply}

-- a maximum above 65 counts no more slots than 65
abbrev pub lent_head : Table → Head
lent_head t = record { own = t.own; max = min t.max 65; tvl = t.tvl; dgvl = t.dgvl; area = t.area }

-- the own MID and the area are those of the head, and the rest stays
abbrev pub replied : Table → HeadReply → TableReply
replied t r = record {
  answer = r.answer;
  table = record {
    own = r.head.own;
    max = t.max;
    tvl = t.tvl;
    dgvl = t.dgvl;
    area = r.head.area;
    slots = t.slots;
  };
}
