mod ValidWorlds
