mod TwoRows
mod RoomLaws
