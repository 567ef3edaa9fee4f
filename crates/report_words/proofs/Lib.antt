-- `Steps`: from what each function leaves to its definition.
mod Steps
-- `RoomSteps`: the room that is left for calls.
mod RoomSteps
